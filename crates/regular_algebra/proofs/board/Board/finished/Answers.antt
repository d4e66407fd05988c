use Rattle.std.proofs.Common.{◌∙◌}
use Rattle.regular_algebra.proofs.Turns.{all-finished}
use Rattle.regular_algebra.proofs.board.Board.finished.Goals as goal

pub returns-clause-table : goal.returns-clause-table
returns-clause-table c =
    all-finished _ _ _ _ _ _ _ (c.in_ok-enter_all.ensures.sized.first ∙ c.in_ok-board.ensures.first) (c.in_ok-enter_all.ensures.sized.count ∙ c.in_ok-board.ensures.count)
    c.in_ok-enter_all.ensures.table c.in_ok-eliminate_all.ensures.table
