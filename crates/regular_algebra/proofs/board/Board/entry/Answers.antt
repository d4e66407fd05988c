use Rattle.std.proofs.Common.{sym, ap, ◌∙◌, ◌<◌, inl, inr, List, [], length, arith}
use Rattle.std.proofs.lemmas.List.{get_or_read}
use Rattle.regular_algebra.specs.Rows.{value_to}
use Rattle.regular_algebra.specs.Cells.{table_of}
use Rattle.regular_algebra.specs.declared.row.Item.{Item}
use Rattle.regular_algebra.proofs.Cells.{cell-live, cell-gone, live-below, not-live, not-gone}
use Rattle.regular_algebra.proofs.board.Board.entry.Goals as goal
use Rattle.regular_algebra.proofs.board.Board.entry.Goals.{else-is_live-via-then-is_live+else-is_live-2, else-is_live-via-else-is_live}

pub returns-then-is_live-2 : goal.returns-then-is_live-2
unfolding table_of
returns-then-is_live-2 c =
    let b = c.args.self.now in
    let row = not-gone _ (sym c.is_live.ensures ∙ c.if-is_live.true) in
    let column = not-gone _ (sym c.is_live-then-is_live.ensures ∙ c.if-is_live-2.true) in
    let below = live-below b.gone.items c.args.i row in
    let within : c.args.i < length b.rows.items = omega (arith, below, b.has_marks, b.gone.ok, b.has_rows, b.rows.ok) in
    c.value_to.ensures ∙ ap (λ (r : List Item). value_to r c.args.j) (get_or_read b.rows.items c.args.i c.index.result.now within c.index.ensures [])
    ∙ sym (cell-live b.rows.items b.gone.items c.args.i c.args.j row column)

pub returns-else-is_live : goal.returns-else-is_live
unfolding table_of
returns-else-is_live c =
    let b = c.args.self.now in
    elim c.else-is_live.branch [
      | else-is_live-via-then-is_live+else-is_live-2 w ↦
          sym (cell-gone b.rows.items b.gone.items c.args.i c.args.j (inr (not-live _ (sym w.is_live-then-is_live.ensures ∙ w.if-is_live-2.false))))
      | else-is_live-via-else-is_live w ↦
          sym (cell-gone b.rows.items b.gone.items c.args.i c.args.j (inl (not-live _ (sym c.is_live.ensures ∙ w.if-is_live.false))))
    ]
