use Rattle.flow_graph.proofs.Members.{IsIn-get_or}
use Rattle.data_use.proofs.Collected.{arc-marked, arc-unmarked}
use Rattle.data_use.proofs.routes.add_arcs.Goals as goal
use Rattle.data_use.proofs.routes.add_arcs.Goals.{then-marks-arc+in_ok-push, else-marks-arc}

pub bounds-marks-arc : goal.bounds-marks-arc
bounds-marks-arc c = c.requires _ (IsIn-get_or c.args.arcs.now c.loop-arc.arc-index _ c.loop-arc-test.true)

pub loop-arc-preserved : goal.loop-arc-preserved
loop-arc-preserved c =
    record {
      each = elim c.if-marks-arc.branch [
        | then-marks-arc+in_ok-push w ↦
            arc-marked c.args.routes.now.items c.loop-arc.routes.items c.if-marks-arc.routes.items c.args.arcs.now c.args.marks.now c.loop-arc.arc-index _ c.loop-arc-test.true
            c.loop-arc.invariant.each w.if-marks-arc.true (cc (w.routes-is, w.in_ok-push.ensures.items))
        | else-marks-arc w ↦
            arc-unmarked c.args.routes.now.items c.loop-arc.routes.items c.if-marks-arc.routes.items c.args.arcs.now c.args.marks.now c.loop-arc.arc-index _ c.loop-arc-test.true
            c.loop-arc.invariant.each w.if-marks-arc.false (cc w.routes-is)
      ];
    }
