use Rattle.std.proofs.Common.{◌<◌, List, [], length, arith, subst}
use Rattle.std.proofs.lemmas.List.{get_or_read}
use Rattle.regular_algebra.specs.Rows.{SetsValue}
use Rattle.regular_algebra.specs.Cells.{table_of}
use Rattle.regular_algebra.specs.declared.row.Item.{Item}
use Rattle.regular_algebra.proofs.Cells.{put-cells, live-below}
use Rattle.regular_algebra.proofs.board.Board.put.Goals as goal

pub returns-clause-table : goal.returns-clause-table
unfolding table_of
returns-clause-table c =
    let b = c.args.self.now in
    let below = live-below b.gone.items c.args.i c.requires.row in
    let within : c.args.i < length b.rows.items = omega (arith, below, b.has_marks, b.gone.ok, b.has_rows, b.rows.ok) in
    let row = get_or_read b.rows.items c.args.i c.index_mut.result.now within c.index_mut.ensures.value [] in
    put-cells b.rows.items b.gone.items b.steps.items c.args.i c.args.j c.args.value c.set.new.self within c.requires.row c.requires.column
    (subst (λ (r : List Item). SetsValue r c.set.new.self c.args.j c.args.value) row c.in_ok-set.ensures.ok)
