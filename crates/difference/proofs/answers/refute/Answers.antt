-- Edges that refute leave no solution.
use Rattle.difference.proofs.Settling.{refuted-unsolved}
use Rattle.difference.proofs.answers.refute.Goals as goal

pub returns-clause-exact : goal.returns-clause-exact
returns-clause-exact c = refuted-unsolved c.args.ranges.now c.args.constraints.now c.in-Refuted.edges.items (rw c.in-Refuted.is at c.in_ok-lifted.ensures)
