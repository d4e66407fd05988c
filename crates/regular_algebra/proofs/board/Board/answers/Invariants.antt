use Rattle.std.proofs.Common.{◌≡◌, take, map}
use Rattle.regular_algebra.specs.Cells.{table_of}
use Rattle.regular_algebra.proofs.board.Board.answers.Given as goal

-- the first targets are answered
abbrev pub invariant-loop-target : goal.invariant-loop-target
invariant-loop-target l = l.answers.items ≡ map (λ t. (table_of l.self).entry l.start t) (take l.target-index l.targets)
