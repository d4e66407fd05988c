use Rattle.std.proofs.Common.{◌+◌, ◌<◌}
use Rattle.flow_graph.specs.Search.{IsMarked}
use Rattle.control_flow.proofs.Listing.{lists_push, lists_same, marked_next, skipped_next}
use Rattle.control_flow.proofs.marks.marked_lines.Goals as goal
use Rattle.control_flow.proofs.marks.marked_lines.Goals.{then-marks-at+in_ok-push, else-marks-at}

pub loop-at-preserved : goal.loop-at-preserved
loop-at-preserved c = elim c.if-marks-at.branch [
  | then-marks-at+in_ok-push w ↦
      rw (w.lines-is, w.in_ok-push.ensures.ok)
      (lists_push _ (λ k. IsMarked c.args.marks.now k × (k < c.loop-at.at + 1)) c.loop-at.lines c.loop-at.at c.loop-at.invariant (λ k p. p.1)
      (marked_next c.args.marks.now c.loop-at.at w.if-marks-at.true))
  | else-marks-at w ↦
      rw w.lines-is
      (lists_same _ (λ k. IsMarked c.args.marks.now k × (k < c.loop-at.at + 1)) c.loop-at.lines c.loop-at.invariant
      (skipped_next c.args.marks.now c.loop-at.at w.if-marks-at.false))
]
