use Rattle.std.proofs.Common.{◌≡◌, take, fold}
use Rattle.regular_algebra.specs.Cells.{table_of, SameSize}
use Rattle.regular_algebra.specs.Rule.{turn}
use Rattle.regular_algebra.proofs.board.Board.turn_row.Given as goal

-- the turns to the first listed nodes are made
abbrev pub invariant-loop-j : goal.invariant-loop-j
invariant-loop-j l = record { sized : SameSize l.fn.self l.self; so_far : table_of l.self ≡ fold (λ t j. turn l.fn.self.first l.p l.star l.i j t) (table_of l.fn.self) (take l.j-index l.leaving) }
