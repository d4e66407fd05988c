use Rattle.regular_algebra.proofs.Turns.{eliminated-cleared}
use Rattle.regular_algebra.proofs.board.Board.eliminate_node.Goals as goal

pub returns-clause-table : goal.returns-clause-table
returns-clause-table c = eliminated-cleared _ _ _ _ _ _ c.in_ok-pass.ensures.table c.clear.ensures.table
