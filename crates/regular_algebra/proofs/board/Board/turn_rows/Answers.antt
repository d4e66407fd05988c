use Rattle.std.proofs.Common.{◌∙◌, ap, inl, fold}
use Rattle.std.proofs.lemmas.List.{take_all}
use Rattle.regular_algebra.specs.Cells.{table_of}
use Rattle.regular_algebra.specs.Rule.{Table, row}
use Rattle.regular_algebra.proofs.Sizes.{size-then, board-beside}
use Rattle.regular_algebra.proofs.Listed.{keeps-then, rows-listed, row-sized, rows-more_listed}
use Rattle.regular_algebra.proofs.board.Board.turn_rows.Goals as goal

pub loop-i-preserved : goal.loop-i-preserved
loop-i-preserved c =
    let h = c.loop-i.invariant in
    let b = c.args.self.now in
    let turned = row-sized _ _ _ _ _ _ _ _ _ h.sized.first h.sized.count c.in_ok-turn_row.ensures.table in
    record {
      sized = size-then _ _ _ h.sized c.in_ok-turn_row.ensures.sized;
      kept = keeps-then _ _ _ _ h.kept turned.0;
      so_far = rows-more_listed b.first c.args.p c.args.star b.count (table_of b) _ _ c.args.entering.now c.loop-i.i-index c.loop-i-test.true h.so_far turned.1;
    }

pub returns-clause-table : goal.returns-clause-table
returns-clause-table c =
    let b = c.args.self.now in
    c.loop-i.invariant.so_far ∙ ap (fold (λ (t : Table) i. row b.first c.args.p c.args.star i b.count t) (table_of b)) (take_all c.loop-i.i-index c.args.entering.now c.loop-i-test.false)
    ∙ rows-listed b.first c.args.p c.args.star b.count (table_of b) c.args.entering.now c.requires.entering (λ i l. board-beside b i c.args.p (inl l))
