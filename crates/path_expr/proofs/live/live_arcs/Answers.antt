use Rattle.std.proofs.Common.{get_or, arith}
use Rattle.flow_graph.proofs.Members.{IsIn-get_or}
use Rattle.path_expr.proofs.LiveArcs.{live_skip, live_more, live_end}
use Rattle.path_expr.proofs.live.live_arcs.Goals as goal
use Rattle.path_expr.proofs.live.live_arcs.Goals.{then-marks-arc+in_ok-push, else-marks-arc}

pub bounds-marks-arc : goal.bounds-marks-arc
bounds-marks-arc c = (c.requires _ (IsIn-get_or c.args.arcs.now c.loop-k.k (record { tail = 0; head = 0 }) c.loop-k-test.true)).tail_inside

pub loop-k-preserved : goal.loop-k-preserved
loop-k-preserved c = elim c.if-marks-arc.branch [
  | then-marks-arc+in_ok-push w ↦
      rw w.live-is
      (live_more c.args.arcs.now c.args.marks.now c.loop-k.k (record { tail = 0; head = 0 }) c.loop-k.live.items _ c.loop-k-test.true c.loop-k.invariant w.if-marks-arc.true
      w.in_ok-push.ensures.items)
  | else-marks-arc w ↦
      rw w.live-is (live_skip c.args.arcs.now c.args.marks.now c.loop-k.k (record { tail = 0; head = 0 }) c.loop-k.live.items c.loop-k-test.true c.loop-k.invariant w.if-marks-arc.false)
]

pub returns-clause-exact : goal.returns-clause-exact
returns-clause-exact c = live_end c.args.arcs.now c.args.marks.now c.loop-k.k c.loop-k.live.items (omega (arith, c.loop-k-test.false)) c.loop-k.invariant

pub returns-clause-small : goal.returns-clause-small
returns-clause-small c k l =
    let m = c.loop-k.invariant.low (get_or c.loop-k.live.items k 0) (IsIn-get_or c.loop-k.live.items k 0 l) in
    omega (arith, m, c.loop-k.auto.k-end, c.in_ok-live.ensures.capacity, c.in_ok-live.live.small)
