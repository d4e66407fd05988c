-- Boards of one size, and what an entry of a board says of its nodes.
use Rattle.std.proofs.Common.{◌≡◌, refl, sym, ap, ◌∙◌, ℕ, ◌≤◌, ◌⊎◌, inl, inr, true, Some, None, [], length, get_or, arith}
use Rattle.regular_algebra.specs.Rule.{Table, made}
use Rattle.regular_algebra.specs.Rows.{has_node}
use Rattle.regular_algebra.specs.Cells.{table_of, SameSize}
use Rattle.regular_algebra.specs.declared.board.Board.{Board}
use Rattle.regular_algebra.specs.declared.steps.Step.{Step}
use Rattle.regular_algebra.proofs.Cells.{Stands, cell-some, cell-gone, gone-past}

-- a board has its own size
pub size-same : (a : Board) → SameSize a a
size-same a = record { count = refl; first = refl }

-- sizes that stay stay
pub size-then : (a b c : Board) → SameSize a b → SameSize b c → SameSize a c
size-then a b c s t = record { count = t.count ∙ s.count; first = t.first ∙ s.first }

-- an entry that has a value stands in its row, and its nodes are live
pub board-stands : (b : Board) (i j v : ℕ) → Some v ≡ (table_of b).entry i j → Stands b.rows.items b.gone.items i j v
unfolding table_of
board-stands b i j v e = cell-some b.rows.items b.gone.items i j v (sym e)

-- an entry beside the board has no value
pub board-beside : (b : Board) (i j : ℕ) → (b.count ≤ i) ⊎ (b.count ≤ j) → (table_of b).entry i j ≡ None
unfolding table_of
board-beside b i j (inl l) =
    let past : length b.gone.items ≤ i = omega (arith, b.has_marks, b.gone.ok) in
    cell-gone b.rows.items b.gone.items i j (inl (gone-past b.gone.items i past))
board-beside b i j (inr l) =
    let past : length b.gone.items ≤ j = omega (arith, b.has_marks, b.gone.ok) in
    cell-gone b.rows.items b.gone.items i j (inr (gone-past b.gone.items j past))

made_entry : (s : Step) (t : Table) (i j : ℕ) → (made s t).entry i j ≡ t.entry i j
unfolding made
made_entry s t i j = refl

-- the node of an entry that has a value is noted, also once a step is made
pub board-noted : (b : Board) (i j v : ℕ) → Some v ≡ (table_of b).entry i j → has_node (get_or b.columns.items j []) i ≡ true
board-noted b i j v e = b.noted i j v (board-stands b i j v e).value

pub board-noted_made : (a b : Board) (s : Step) (i j v : ℕ) → Some v ≡ (table_of a).entry i j → table_of b ≡ made s (table_of a)
    → has_node (get_or b.columns.items j []) i ≡ true
board-noted_made a b s i j v e f = board-noted b i j v (e ∙ sym (made_entry s (table_of a) i j) ∙ sym (ap (λ (t : Table). t.entry i j) f))
