use Rattle.std.proofs.Common.{◌∙◌, ap, inr, fold}
use Rattle.std.proofs.lemmas.List.{take_all}
use Rattle.regular_algebra.specs.Cells.{table_of}
use Rattle.regular_algebra.specs.Rule.{Table, turn}
use Rattle.regular_algebra.proofs.Sizes.{board-beside}
use Rattle.regular_algebra.proofs.Turns.{row-skipped, none-told}
use Rattle.regular_algebra.proofs.Listed.{row-listed}
use Rattle.regular_algebra.proofs.board.Board.turn_row.Goals as goal

pub returns-then-is_none-clause-table : goal.returns-then-is_none-clause-table
returns-then-is_none-clause-table c = row-skipped _ _ _ _ _ _ (none-told _ _ c.if-is_none.ensures c.entry.ensures)

pub returns-clause-table : goal.returns-clause-table
returns-clause-table c =
    let b = c.args.self.now in
    c.loop-j.invariant.so_far ∙ ap (fold (λ (t : Table) j. turn b.first c.args.p c.args.star c.args.i j t) (table_of b)) (take_all c.loop-j.j-index c.args.leaving.now c.loop-j-test.false)
    ∙ row-listed b.first c.args.p c.args.star c.args.i b.count (table_of b) c.args.leaving.now c.requires (λ j l. board-beside b c.args.p j (inr l))
