use Rattle.regular_algebra.specs.Cells.{table_of}
use Rattle.regular_algebra.proofs.Cells.{blank-cells}
use Rattle.regular_algebra.proofs.board.Board.new.Goals as goal

pub returns-clause-table : goal.returns-clause-table
unfolding table_of
returns-clause-table c = blank-cells c.args.count c.in_ok-rows.rows.items c.in_ok-gone.gone.items c.new.result.items c.in_ok-rows.ensures c.new.ensures.items
