-- The constraints among edges that refute have no solution together.
use Rattle.difference.proofs.Settling.{refuted-none}
use Rattle.difference.proofs.answers.solve.Goals as goal

pub returns-in_ok-named-in-Refuted : goal.returns-in_ok-named-in-Refuted
returns-in_ok-named-in-Refuted c =
    let refuted = rw c.in-Refuted.is at c.in_ok-board.ensures in
    rw (c.from_vec-in-Refuted.ensures, c.in_ok-named-in-Refuted.ensures, c.deref.ensures.value)
    (refuted-none c.args.ranges.now c.args.constraints.now c.in-Refuted.edges.items refuted)
