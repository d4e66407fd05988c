use Rattle.regular_algebra.proofs.Turns.{multiplied-made}
use Rattle.regular_algebra.proofs.board.Board.multiply.Goals as goal

pub returns-clause-table : goal.returns-clause-table
returns-clause-table c =
    multiplied-made _ _ _ _ _ _ _ _ _ _ c.in_ok-product.ensures.sized.first c.in_ok-product.ensures.table c.in_ok-product.ensures.number c.in_ok-join.ensures.table
