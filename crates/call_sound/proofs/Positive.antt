-- Each line counts as one line at least, so what is written keeps the limits where what is counted does.
use Rattle.std.proofs.Common.{◌≡◌, ℕ, zero, suc, ◌+◌, ◌<◌, ◌≤◌, ◌∙◌, sym, ap, subst, refl, List, [], ◌∷◌, ◌++◌, length, take, arith}
use Rattle.std.specs.Prelude.{Some, sum_by, slice_get, unwrap_or}
use Rattle.std.proofs.lemmas.List.Sums.{sum_by-append, sum_by-cons}
use Rattle.il_core.specs.Procedure as line
use Rattle.il_core.specs.Statement.{Placed}
use Rattle.il_core.specs.declared.statement.Link.{Link}
use Rattle.il_syntax.specs.Order.{IsInOrder}
use Rattle.il_blocks.specs.BlockLabel.{owner}
use Rattle.il_built.proofs.CheckedLinesWhole.{names_owned}
use Rattle.il_built.specs.CheckedText.{post_of}
use Rattle.il_built.proofs.CheckedLinesCounts.{owner_is}
use Rattle.il_built.proofs.CheckedLinesEnd.{IsEndOf, end_of}
use Rattle.il_built.proofs.Given.{given_next, given_here}
use Rattle.il_called.specs.Called.{WrittenLine, own, call, WrittenProcedure}
use Rattle.il_called.specs.Expansion.{callees_of}
use Rattle.call_rules.specs.CalledText.{written_lines, written_procedures, lines_before}
use Rattle.call_rules.specs.Limits.{lines_in, counted_width, widths_of}
use Rattle.call_limits.proofs.Callees.{made, callees_push, take_next}
use Rattle.call_limits.proofs.Widths.{widths_push}
use Rattle.call_sound.proofs.Frame.{procedure_at}
use Rattle.call_sound.proofs.Limits.{ended_lines}

-- the ENDPROC of a procedure counts as a line
some_line : (stmts : List Placed) (links : List Link) (ws : List ℕ) (o z : ℕ) → IsInOrder stmts → IsEndOf stmts o z
    → 1 ≤ sum_by (lines_in ws) (lines_before stmts links o (length stmts))
some_line stmts links ws o z order e =
    let give = written_lines stmts links o in
    let last : WrittenLine = own (line.end_procedure (post_of stmts o)) in
    let here = given_here give stmts o z e.stmt e.is_line.there (owner_is stmts z ∙ e.is_line.own) ∙ ap (give z) e.says in
    let whole : lines_before stmts links o (length stmts) ≡ lines_before stmts links o z ++ last ∷ [] =
    ended_lines stmts links o z order e ∙ given_next give stmts o z ∙ ap (λ ls. lines_before stmts links o z ++ ls) here in
    let sum = ap (sum_by (lines_in ws)) whole ∙ sum_by-append (lines_in ws) (lines_before stmts links o z) (last ∷ []) in
    let one : sum_by (lines_in ws) (last ∷ []) ≡ 1 + sum_by (lines_in ws) [] = sum_by-cons (lines_in ws) last [] in
    omega (arith, sum, one)

-- each of these numbers is 1 at least
abbrev pub ArePositive : List ℕ → Type 0
ArePositive [] = Unit {0}
ArePositive (w ∷ ws) = (1 ≤ w) × ArePositive ws

positive_append : (ws vs : List ℕ) → ArePositive ws → ArePositive vs → ArePositive (ws ++ vs)
positive_append [] vs h g = g
positive_append (w ∷ ws) vs h g = (h.0, positive_append ws vs h.1 g)

pub widths_positive : (stmts : List Placed) (links : List Link) (k : ℕ) → IsInOrder stmts → k ≤ length (written_procedures stmts links)
    → ArePositive (widths_of (callees_of (take k (written_procedures stmts links))))
unfolding callees_of
widths_positive stmts links zero o h = tt
widths_positive stmts links (suc k) o h =
    let ps = written_procedures stmts links in
    let p = found ps k (omega arith) in
    let cs = callees_of (take k ps) in
    let q = procedure_at stmts links k p.0 p.1 in
    let below = q.below in
    let e = names_owned stmts in
    let begun : k < owner stmts (length stmts) = omega (arith, below, e) in
    let end = end_of stmts k o begun in
    let one : suc k ≡ 1 + k = omega arith in
    let lines : 1 ≤ sum_by (lines_in (widths_of cs)) p.0.lines = subst (λ (r : WrittenProcedure). 1 ≤ sum_by (lines_in (widths_of cs)) r.lines) (sym q.is)
    (subst (λ m. 1 ≤ sum_by (lines_in (widths_of cs)) (lines_before stmts links m (length stmts))) one (some_line stmts links (widths_of cs) (suc k) end.0 o end.1)) in
    let wide : 1 ≤ counted_width (widths_of cs) (made cs p.0) = omega (arith, lines) in
    let more : widths_of (callees_of (take (suc k) ps)) ≡ widths_of cs ++ counted_width (widths_of cs) (made cs p.0) ∷ [] =
    ap widths_of (ap callees_of (take_next ps k p.0 p.1) ∙ callees_push (take k ps) p.0) ∙ widths_push cs (made cs p.0) in
    subst ArePositive (sym more) (positive_append (widths_of cs) _ (widths_positive stmts links k o (omega arith)) (wide, tt))
  where
    found : {A : Type 0} (xs : List A) (j : ℕ) → j < length xs → (x : A) × (slice_get xs j ≡ Some x)
    found [] j h = absurd (omega arith)
    found (x ∷ xs) zero h = (x, refl)
    found (x ∷ xs) (suc j) h = found xs j (omega arith)

width_positive : (ws : List ℕ) (n : ℕ) → ArePositive ws → 1 ≤ unwrap_or (slice_get ws n) 1
width_positive [] n h = omega arith
width_positive (w ∷ ws) zero h = h.0
width_positive (w ∷ ws) (suc n) h = width_positive ws n h.1

line_positive : (ws : List ℕ) (l : WrittenLine) → ArePositive ws → 1 ≤ lines_in ws l
line_positive ws (own i) h = omega arith
line_positive ws (call n arguments) h = width_positive ws n h

-- so lines count as no fewer than they are
pub no_fewer : (ws : List ℕ) (ls : List WrittenLine) → ArePositive ws → length ls ≤ sum_by (lines_in ws) ls
no_fewer ws [] h = omega arith
no_fewer ws (l ∷ ls) h =
    let one = line_positive ws l h in
    let rest = no_fewer ws ls h in
    let sum = sum_by-cons (lines_in ws) l ls in
    omega (arith, one, rest, sum)
