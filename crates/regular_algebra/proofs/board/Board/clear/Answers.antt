use Rattle.regular_algebra.specs.Cells.{table_of}
use Rattle.regular_algebra.proofs.Cells.{clear-cells}
use Rattle.regular_algebra.proofs.board.Board.clear.Goals as goal

pub returns-clause-table : goal.returns-clause-table
unfolding table_of
returns-clause-table c = let b = c.args.self.now in clear-cells b.rows.items b.gone.items b.steps.items c.args.p
