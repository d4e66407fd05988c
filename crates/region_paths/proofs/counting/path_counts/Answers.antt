use Rattle.std.proofs.Common.{sym, subst, ℕ, suc, List}
use Rattle.std.proofs.lemmas.List.{length-map}
use Rattle.il_core.specs.Procedure.{instruction_of}
use Rattle.il_core.specs.Checked.{procedure_of}
use Rattle.control_flow.specs.declared.control.LoopInfo.{LoopInfo}
use Rattle.region_paths.specs.Walk.{LeadInside}
use Rattle.region_paths.specs.Count.{AreHeadCounts, CountAtLeast}
use Rattle.region_paths.proofs.Sized.{lead_inside, begins}
use Rattle.region_paths.proofs.Settled.{first_settled}
use Rattle.region_paths.proofs.counting.path_counts.Goals as goal

pub head_counts-requires-clause-leading : goal.head_counts-requires-clause-leading
head_counts-requires-clause-leading c =
    subst (LeadInside (procedure_of c.args.proc.now)) (sym c.as_slice.ensures) (lead_inside (procedure_of c.args.proc.now) c.args.control.now c.requires.control)

pub returns : goal.returns
returns c =
    let p = procedure_of c.args.proc.now in
    let heads : AreHeadCounts p c.args.control.now.loops c.deref.result.now =
    subst (λ (ls : List LoopInfo). AreHeadCounts p ls c.deref.result.now) c.as_slice.ensures
    (subst (AreHeadCounts p c.as_slice.result.now) (sym c.deref.ensures.value) c.in_ok-heads.ensures.exact) in
    let most = c.in_ok-counts.ensures.most c.args.control.now.loops heads in
    let least = subst (λ (n : ℕ). CountAtLeast p c.args.control.now.loops c.args.graph.now (suc n) 0 c.in_ok-counts.counts.items) (sym (length-map c.args.proc.now.lines instruction_of))
    (c.in_ok-counts.ensures.least c.args.control.now.loops heads) in
    record {
      nodes = c.in_ok-counts.ensures.size;
      few = c.in_ok-counts.ensures.few;
      each = λ pc id count i u at.
          first_settled p c.args.control.now.loops c.args.graph.now pc id most.0 count c.in_ok-counts.counts.items
          c.ways_go_along_arcs.ensures (begins p c.args.control.now pc c.requires.checked c.requires.control c.requires.shape i) u least most.1 at;
    }
