use Rattle.flow_graph.proofs.Members.{IsIn-get_or}
use Rattle.interval_reduce.proofs.Carrying.{marked_push, marked_skip}
use Rattle.interval_reduce.proofs.arcs.marked_arcs.Goals as goal
use Rattle.interval_reduce.proofs.arcs.marked_arcs.Goals.{then-marks-arc+in_ok-push, else-marks-arc}

pub bounds-marks-arc : goal.bounds-marks-arc
bounds-marks-arc c = (c.requires _ _ (IsIn-get_or c.args.arcs.now c.loop-arc.arc-index (record { tail = 0; head = 0 }) c.loop-arc-test.true)).tail

pub loop-arc-preserved : goal.loop-arc-preserved
loop-arc-preserved c = elim c.if-marks-arc.branch [
  | then-marks-arc+in_ok-push w ↦
      rw (w.marked-is, w.in_ok-push.ensures.ok)
      (marked_push c.args.marks.now c.args.arcs.now c.loop-arc.arc-index (record { tail = 0; head = 0 }) c.loop-arc.marked c.loop-arc-test.true (cc) c.loop-arc.invariant)
  | else-marks-arc w ↦
      rw w.marked-is
      (marked_skip c.args.marks.now c.args.arcs.now c.loop-arc.arc-index (record { tail = 0; head = 0 }) c.loop-arc.marked c.loop-arc-test.true (cc) c.loop-arc.invariant)
]
