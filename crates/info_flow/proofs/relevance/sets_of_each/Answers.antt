use Rattle.std.proofs.Common.{sym, ap, ◌∙◌}
use Rattle.il_core.specs.declared.line.Place.{Place}
use Rattle.info_flow.proofs.EachSets.{sets_push, sets_skip}
use Rattle.info_flow.proofs.relevance.sets_of_each.Goals as goal
use Rattle.info_flow.proofs.relevance.sets_of_each.Goals.{then-not-place+in_ok-sets_of+in_ok-push, else-not-place}

pub loop-number-preserved : goal.loop-number-preserved
loop-number-preserved c =
    let here = ap (λ (p : Place). p.old) (sym c.index-places-number.is) in
    elim c.if-not-place.branch [
      | then-not-place+in_ok-sets_of+in_ok-push w ↦
          rw (w.found-is, w.in_ok-push.ensures.ok)
          (sets_push c.args.graph.now c.args.places.now c.loop-number.number c.index-places-number.result c.loop-number.found w.in_ok-sets_of.field-0
          c.loop-number-test.true (here ∙ w.if-not-place.true) w.in_ok-sets_of.ensures.place w.in_ok-sets_of.ensures.least c.loop-number.invariant)
      | else-not-place w ↦
          rw w.found-is
          (sets_skip c.args.graph.now c.args.places.now c.loop-number.number c.index-places-number.result c.loop-number.found c.loop-number-test.true
          (here ∙ w.if-not-place.false) c.loop-number.invariant)
    ]
