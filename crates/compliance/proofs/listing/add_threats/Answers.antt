use Rattle.std.proofs.Common.{refl, sym, ap, ◌∙◌, subst, [], ◌∷◌, length, take, filter}
use Rattle.std.proofs.lemmas.List.{length-append}
use Rattle.std.proofs.lemmas.Iterator.Adapters.{YieldsList-from_vec}
use Rattle.std.proofs.lemmas.Iterator.Consumers.{YieldsList-turn}
use Rattle.std.proofs.lemmas.Option.{slice_get_read}
use Rattle.il_core.specs.Checked.{procedure_of}
use Rattle.compliance.specs.Behind.{IsHazardBehind, is_bad_behind, AddsTold}
use Rattle.compliance.proofs.Told.{told_more}
use Rattle.compliance.proofs.listing.add_threats.Goals as goal

pub add_threat-requires-clause-hazard : goal.add_threat-requires-clause-hazard
add_threat-requires-clause-hazard c =
    let gives = c.into_iter-hazard-iterator.ensures.into_iter_gives in
    let size = gives.1 ∙ c.into_vec-hazard-items.result.ok.0 ∙ ap length c.into_vec-hazard-items.ensures in
    let t =
    YieldsList-turn (YieldsList-from_vec {s = c.into_iter-hazard-iterator.result} c.args.hazards (gives.0 ∙ c.into_vec-hazard-items.ensures) size) c.loop-hazard.yielded c.loop-hazard.hazard-iterator
    c.loop-hazard.yielded_by c.next.result c.next.new.self c.in-Some.hazard c.in-Some.is c.next.ensures.steps in
    subst (IsHazardBehind (procedure_of c.args.proc.now) c.args.pc c.args.leading.now) (sym t.1) (c.requires.hazards (length c.loop-hazard.yielded) c.in-Some.hazard t.0)

pub loop-hazard-preserved : goal.loop-hazard-preserved
loop-hazard-preserved c =
    let gives = c.into_iter-hazard-iterator.ensures.into_iter_gives in
    let size = gives.1 ∙ c.into_vec-hazard-items.result.ok.0 ∙ ap length c.into_vec-hazard-items.ensures in
    let t =
    YieldsList-turn (YieldsList-from_vec {s = c.into_iter-hazard-iterator.result} c.args.hazards (gives.0 ∙ c.into_vec-hazard-items.ensures) size) c.loop-hazard.yielded c.loop-hazard.hazard-iterator
    c.loop-hazard.yielded_by c.next.result c.next.new.self c.in-Some.hazard c.in-Some.is c.next.ensures.steps in
    let at = slice_get_read c.args.hazards (length c.args.hazards) (length c.loop-hazard.yielded) c.in-Some.hazard refl t.0 t.1 in
    record {
      can = tt;
      finite = tt;
      told = λ paths e.
          subst (λ n. AddsTold (procedure_of c.args.proc.now) c.args.pc (filter (is_bad_behind (procedure_of c.args.proc.now) c.args.leading.now) (take n paths)) c.args.found.now c.add_threat.new.found)
          (sym (length-append c.loop-hazard.yielded (c.in-Some.hazard ∷ [])))
          (told_more (procedure_of c.args.proc.now) c.args.pc c.args.leading.now c.args.hazards paths (length c.loop-hazard.yielded) c.in-Some.hazard c.args.found.now c.loop-hazard.found c.add_threat.new.found
          e at c.in_ok-add_threat.ensures (c.loop-hazard.invariant.told paths e));
    }
