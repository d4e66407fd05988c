-- A quiet side joins those that are; where all are, each constraint is met.
use Rattle.difference.proofs.Sweeps.{swept-quiet, swept-raised}
use Rattle.difference.proofs.rounds.sweep.Goals as goal
use Rattle.difference.proofs.rounds.sweep.Goals.{in-Quiet, in-Raised}

pub loop-place-preserved : goal.loop-place-preserved
loop-place-preserved c =
    let h = c.loop-place.invariant in
    elim c.match-branch-2.branch [
      | in-Quiet w ↦ let calm = rw w.in-Quiet.is at c.in_ok-calm.ensures in
          rw w.changed-is (record {
            ready = calm.0;
            swept = swept-quiet c.args.ranges.now c.args.board.now c.loop-place.board c.calm.new.board c.loop-place.changed c.loop-place.place h.swept calm.1 calm.2;
          })
      | in-Raised w ↦ let raised = rw w.in-Raised.is at c.in_ok-calm.ensures in
          rw w.changed-is (record {
            ready = raised.0;
            swept = swept-raised c.args.ranges.now c.args.board.now c.loop-place.board c.calm.new.board c.loop-place.changed c.loop-place.place h.swept raised.1;
          })
    ]
