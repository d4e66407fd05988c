use Rattle.std.proofs.Common.{◌≡◌, take, fold}
use Rattle.regular_algebra.specs.Cells.{table_of, SameSize}
use Rattle.regular_algebra.specs.Rule.{eliminated}
use Rattle.regular_algebra.proofs.board.Board.eliminate_all.Given as goal

-- the first nodes of the order are eliminated
abbrev pub invariant-loop-p : goal.invariant-loop-p
invariant-loop-p l = record { sized : SameSize l.fn.self l.self; so_far : table_of l.self ≡ fold (eliminated l.fn.self.first l.fn.self.count) (table_of l.fn.self) (take l.p-index l.order) }
