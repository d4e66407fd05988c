-- A constraint that is met keeps what the pass has shown; a raise lowers the slack.
use Rattle.difference.proofs.Lifts.{keeps-more, passed-met, passed-raised}
use Rattle.difference.proofs.solving.pass.Goals as goal
use Rattle.difference.proofs.solving.pass.Goals.{in-Quiet, in-Raised}

pub loop-index-preserved : goal.loop-index-preserved
loop-index-preserved c =
    let h = c.loop-index.invariant in
    elim c.match-branch-2.branch [
      | in-Quiet w ↦ let same = rw w.in-Quiet.is at c.in_ok-apply.ensures in
          rw (w.changed-is, same.0) (record {
            keeps = h.keeps;
            passed = passed-met c.args.ranges.now c.args.constraints.now c.args.board.now c.loop-index.board c.loop-index.changed c.args.first c.loop-index.index h.passed same.1;
          })
      | in-Raised w ↦ let raised = rw w.in-Raised.is at c.in_ok-apply.ensures in
          rw w.changed-is (record {
            keeps = keeps-more c.args.ranges.now c.args.constraints.now c.args.board.now c.loop-index.board c.apply.new.board h.keeps raised.0;
            passed = passed-raised c.args.ranges.now c.args.constraints.now c.args.board.now c.loop-index.board c.apply.new.board c.loop-index.changed c.args.first c.loop-index.index h.passed raised.1;
          })
    ]
