use Rattle.std.proofs.Common.{◌≡◌, take, fold}
use Rattle.regular_algebra.specs.Cells.{table_of, SameSize}
use Rattle.regular_algebra.specs.Rule.{row}
use Rattle.regular_algebra.proofs.Listed.{Keeps}
use Rattle.regular_algebra.proofs.board.Board.turn_rows.Given as goal

-- the turns from the first listed nodes are made
abbrev pub invariant-loop-i : goal.invariant-loop-i
invariant-loop-i l =
    record {
      sized : SameSize l.fn.self l.self;
      kept : Keeps l.p (table_of l.fn.self) (table_of l.self);
      so_far : table_of l.self ≡ fold (λ t i. row l.fn.self.first l.p l.star i l.fn.self.count t) (table_of l.fn.self) (take l.i-index l.entering);
    }
