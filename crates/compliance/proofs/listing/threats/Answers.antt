use Rattle.std.proofs.Common.{◌≡◌, refl, ap, ◌∙◌, subst, Some, length, slice_get, take, take_all, arith}
use Rattle.std.proofs.lemmas.Option.{slice_get_read}
use Rattle.il_core.specs.Checked.{procedure_of}
use Rattle.control_flow.specs.Control.{IsShape}
use Rattle.flow_graph.specs.Graph.{graph_of}
use Rattle.region_paths.specs.Region.{AreRegions, first_lines}
use Rattle.compliance.specs.Safe.{AreThreatsOf}
use Rattle.compliance.proofs.Named.{named}
use Rattle.compliance.proofs.Regions.{start_leads_none, head_first, loop_leads, region_more}
use Rattle.compliance.proofs.listing.threats.Goals as goal

pub add_region-requires-clause-leading : goal.add_region-requires-clause-leading
add_region-requires-clause-leading c =
    let regions : AreRegions (procedure_of c.args.proc.now) c.args.control.now.loops =
    record { loops_of = c.requires.control.loops; reducible = subst (IsShape (graph_of (procedure_of c.args.proc.now))) c.requires.shape c.requires.control.shape } in
    start_leads_none (procedure_of c.args.proc.now) c.args.control.now.loops c.told_checked.ensures regions

pub add_region-requires-in-loop-info-clause-first : goal.add_region-requires-in-loop-info-clause-first
add_region-requires-in-loop-info-clause-first c =
    let read =
    slice_get_read c.as_slice-info-items.result.now (length c.as_slice-info-items.result.now) c.loop-info.info-index c.info-item.result refl c.loop-info-test.true c.info-item.is in
    let at = subst (λ xs. slice_get xs c.loop-info.info-index ≡ Some c.info-item.result) c.as_slice-info-items.ensures read in
    head_first c.args.control.now.loops c.loop-info.info-index c.info-item.result at

pub add_region-requires-in-loop-info-clause-leading : goal.add_region-requires-in-loop-info-clause-leading
add_region-requires-in-loop-info-clause-leading c =
    let regions : AreRegions (procedure_of c.args.proc.now) c.args.control.now.loops =
    record { loops_of = c.requires.control.loops; reducible = subst (IsShape (graph_of (procedure_of c.args.proc.now))) c.requires.shape c.requires.control.shape } in
    let read =
    slice_get_read c.as_slice-info-items.result.now (length c.as_slice-info-items.result.now) c.loop-info.info-index c.info-item.result refl c.loop-info-test.true c.info-item.is in
    let at = subst (λ xs. slice_get xs c.loop-info.info-index ≡ Some c.info-item.result) c.as_slice-info-items.ensures read in
    c.as_slice-leading.ensures ∙ loop_leads (procedure_of c.args.proc.now) c.args.control.now.loops c.loop-info.info-index c.info-item.result regions at

pub loop-info-preserved : goal.loop-info-preserved
loop-info-preserved c =
    let read =
    slice_get_read c.as_slice-info-items.result.now (length c.as_slice-info-items.result.now) c.loop-info.info-index c.info-item.result refl c.loop-info-test.true c.info-item.is in
    let at = subst (λ xs. slice_get xs c.loop-info.info-index ≡ Some c.info-item.result) c.as_slice-info-items.ensures read in
    region_more (procedure_of c.args.proc.now) c.args.control.now.loops c.loop-info.info-index c.info-item.result c.loop-info.found c.add_region-in-loop-info.new.found at c.loop-info.invariant
    c.in_ok-add_region-2.ensures

pub returns-clause-safe : goal.returns-clause-safe
returns-clause-safe c =
    let regions : AreRegions (procedure_of c.args.proc.now) c.args.control.now.loops =
    record { loops_of = c.requires.control.loops; reducible = subst (IsShape (graph_of (procedure_of c.args.proc.now))) c.requires.shape c.requires.control.shape } in
    let past = c.loop-info-test.false in
    let all : take c.loop-info.info-index c.args.control.now.loops ≡ c.args.control.now.loops =
    take_all c.loop-info.info-index c.args.control.now.loops (omega (arith, past, ap length c.as_slice-info-items.ensures)) in
    let ts = subst (λ xs. AreThreatsOf (procedure_of c.args.proc.now) c.args.control.now.loops (first_lines xs) c.loop-info.found) all c.loop-info.invariant in
    c.refuted_lists_mean_no_bad_run.ensures (procedure_of c.args.proc.now) c.args.control.now.loops c.loop-info.found c.told_checked.ensures regions ts

pub returns-clause-named : goal.returns-clause-named
returns-clause-named c =
    let past = c.loop-info-test.false in
    let all : take c.loop-info.info-index c.args.control.now.loops ≡ c.args.control.now.loops =
    take_all c.loop-info.info-index c.args.control.now.loops (omega (arith, past, ap length c.as_slice-info-items.ensures)) in
    let ts = subst (λ xs. AreThreatsOf (procedure_of c.args.proc.now) c.args.control.now.loops (first_lines xs) c.loop-info.found) all c.loop-info.invariant in
    λ t i. named (procedure_of c.args.proc.now) c.args.control.now.loops (first_lines c.args.control.now.loops) c.loop-info.found t ts i
