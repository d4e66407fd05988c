use Rattle.difference.specs.Solving.{slack}
use Rattle.difference.specs.Rounds.{IsReady}
use Rattle.difference.proofs.rounds.run.Given as goal

abbrev pub invariant-loop-board : goal.invariant-loop-board
invariant-loop-board l = IsReady l.ranges l.constraints l.table.count l.board

abbrev pub decreases-loop-board : goal.decreases-loop-board
decreases-loop-board l = slack l.ranges l.board.values.items
