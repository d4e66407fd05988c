use Rattle.flow_graph.proofs.Members.{IsIn-get_or}
use Rattle.control_flow.proofs.Listing.{kept_more, left_more}
use Rattle.control_flow.proofs.rows.marked_of.Goals as goal
use Rattle.control_flow.proofs.rows.marked_of.Goals.{then-marks-at+in_ok-push, else-marks-at}

pub bounds-marks-at : goal.bounds-marks-at
bounds-marks-at c = c.requires _ (IsIn-get_or c.args.row.now c.loop-at.at-index 0 c.loop-at-test.true)

pub loop-at-preserved : goal.loop-at-preserved
loop-at-preserved c = elim c.if-marks-at.branch [
  | then-marks-at+in_ok-push w ↦
      rw (w.lines-is, w.in_ok-push.ensures.ok)
      (kept_more c.args.row.now c.args.marks.now c.loop-at.at-index c.loop-at.lines c.loop-at-test.true c.loop-at.invariant w.if-marks-at.true)
  | else-marks-at w ↦
      rw w.lines-is
      (left_more c.args.row.now c.args.marks.now c.loop-at.at-index c.loop-at.lines c.loop-at-test.true c.loop-at.invariant w.if-marks-at.false)
]
