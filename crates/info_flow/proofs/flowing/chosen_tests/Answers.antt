use Rattle.std.proofs.Common.{sym, ◌∙◌}
use Rattle.std.proofs.lemmas.Bool.{false≢true}
use Rattle.info_flow.specs.Growth.{IsChosen}
use Rattle.info_flow.proofs.Listing.{list_push, list_skip}
use Rattle.info_flow.proofs.flowing.chosen_tests.Goals as goal
use Rattle.info_flow.proofs.flowing.chosen_tests.Goals.{then-is_chosen+in_ok-push, else-is_chosen}

pub loop-line-preserved : goal.loop-line-preserved
loop-line-preserved c = elim c.if-is_chosen.branch [
  | then-is_chosen+in_ok-push w ↦
      rw (w.tests-is, w.in_ok-push.ensures.ok)
      (list_push (IsChosen c.args.graph.now c.args.reached.now c.args.lines.now) c.loop-line.line c.loop-line.tests (c.is_chosen.ensures.0 w.if-is_chosen.true) c.loop-line.invariant)
  | else-is_chosen w ↦
      rw w.tests-is
      (list_skip (IsChosen c.args.graph.now c.args.reached.now c.args.lines.now) c.loop-line.line c.loop-line.tests
      (λ h. false≢true (sym w.if-is_chosen.false ∙ c.is_chosen.ensures.1 h)) c.loop-line.invariant)
]
