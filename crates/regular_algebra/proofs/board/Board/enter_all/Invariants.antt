use Rattle.std.proofs.Common.{◌≡◌}
use Rattle.regular_algebra.specs.Cells.{table_of, SameSize}
use Rattle.regular_algebra.specs.Rule.{entered}
use Rattle.regular_algebra.proofs.board.Board.enter_all.Given as goal

-- the first k arcs are entered
abbrev pub invariant-loop-k : goal.invariant-loop-k
invariant-loop-k l = record { sized : SameSize l.fn.self l.self; marks : l.self.gone.items ≡ l.fn.self.gone.items; so_far : table_of l.self ≡ entered l.arcs l.k }
