-- Without a CALL the lines of a procedure of a text with calls are those of the procedure of the text without calls, and so many as are counted.
use Rattle.std.proofs.Common.{◌≡◌, ◌⊎◌, ℕ, zero, suc, ◌+◌, ◌<◌, ◌≤◌, ◌∙◌, sym, ap, refl, inl, inr, false, List, ◌++◌, length, arith}
use Rattle.std.specs.Prelude.{Some, map, slice_get}
use Rattle.std.proofs.lemmas.Bool.{cases_eq}
use Rattle.std.proofs.lemmas.List.{length-append, map-append}
use Rattle.il_core.specs.Expression.{Expression}
use Rattle.il_core.specs.Procedure.{Instruction}
use Rattle.il_core.specs.Statement.{Statement, Placed}
use Rattle.il_core.specs.Statement as st
use Rattle.il_core.specs.declared.statement.Link.{Link}
use Rattle.il_types.specs.declared.counts.Counts.{Counts}
use Rattle.il_types.specs.Counts.{counts_behind}
use Rattle.il_types.specs.Names.{Setting, counts_at}
use Rattle.il_built.specs.CheckedText.{of_procedure, instructions, post_of, target_at}
use Rattle.il_built.specs.Holding.{setting_at}
use Rattle.il_built.proofs.CheckedLinesNumbered.{line_at}
use Rattle.il_built.proofs.Given.{stands, counts_next, given_by, given_next, given_here, not_given}
use Rattle.il_called.specs.Called.{own}
use Rattle.call_rules.specs.CalledText.{written_lines, lines_before}
use Rattle.call_limits.proofs.Passed.{none_yet, given_more}
use Rattle.call_free.specs.Laws.{is_call, HasNoCall}

line_own : (stmts : List Placed) (links : List Link) (o i : ℕ) (x : Statement) → is_call x ≡ false
    → written_lines stmts links o i x ≡ map own (line_at stmts links o i x)
line_own stmts links o i (st.call name arguments) h = absurd (cc)
line_own stmts links o i _ h = refl

-- each line is one of its own
pub lines_own : (stmts : List Placed) (links : List Link) (o n : ℕ) → HasNoCall stmts → n ≤ length stmts
    → lines_before stmts links o n ≡ map own (given_by (line_at stmts links o) stmts o n)
lines_own stmts links o zero free h = refl
lines_own stmts links o (suc n) free h =
    let give = line_at stmts links o in
    let written = written_lines stmts links o in
    let x = stands stmts n (omega arith) in
    let here : of_procedure written stmts o n ≡ map own (of_procedure give stmts o n) = elim (cases_eq (counts_at stmts n).procedures o) [
      | inl e ↦ given_here written stmts o n x.0 x.1 e ∙ line_own stmts links o n x.0.says (free n x.0 x.1) ∙ sym (ap (map own) (given_here give stmts o n x.0 x.1 e))
      | inr e ↦ not_given written stmts o n x.0 x.1 e ∙ sym (ap (map own) (not_given give stmts o n x.0 x.1 e))
    ] in
    given_next written stmts o n ∙ ap (λ ls. ls ++ of_procedure written stmts o n) (lines_own stmts links o n free (omega arith))
    ∙ ap (λ ls. map own (given_by give stmts o n) ++ ls) here
    ∙ sym (ap (map own) (given_next give stmts o n) ∙ map-append own (given_by give stmts o n) (of_procedure give stmts o n))

-- a statement that begins a procedure has no line in front of it
record IsBegun (c behind : Counts) : Type 0 where
  procedures : behind.procedures ≡ c.procedures + 1
  lines : behind.lines ≡ 0

-- any other counts the lines that it is
record IsCounted (c behind : Counts) (is : List Instruction) : Type 0 where
  procedures : behind.procedures ≡ c.procedures
  lines : behind.lines ≡ c.lines + length is

counted : (c : Counts) (s : Setting) (e : Expression) (target : ℕ) (x : Statement)
    → IsBegun c (counts_behind c x) ⊎ IsCounted c (counts_behind c x) (instructions s e target x)
counted c s e target (st.procedure name) = inl (record { procedures = refl; lines = refl })
counted c s e target (st.variable m name used) = inr (record { procedures = refl; lines = omega arith })
counted c s e target _ = inr (record { procedures = refl; lines = omega arith })

-- there are so many lines as are counted
pub lines_counted : (stmts : List Placed) (links : List Link) (o n : ℕ) → n ≤ length stmts → (counts_at stmts n).procedures ≡ o
    → length (given_by (line_at stmts links o) stmts o n) ≡ (counts_at stmts n).lines
lines_counted stmts links o zero h e = refl
lines_counted stmts links o (suc n) h e =
    by (λ same_owner. lines_counted stmts links o n (omega (arith, h)) same_owner) (counted (counts_at stmts n) (setting_at stmts n) (post_of stmts o) (target_at links n) x.0.says) ∙ sym (ap (λ (c : Counts). c.lines) next)
  where
    within : n < length stmts
    within = omega arith

    x : (y : Placed) × (slice_get stmts n ≡ Some y)
    x = stands stmts n within

    next : counts_at stmts (suc n) ≡ counts_behind (counts_at stmts n) x.0.says
    next = counts_next stmts n x.0 x.1

    same : (counts_behind (counts_at stmts n) x.0.says).procedures ≡ o
    same = sym (ap (λ (c : Counts). c.procedures) next) ∙ e

    more : suc n ≡ n + 1
    more = omega arith

    by : ((counts_at stmts n).procedures ≡ o → length (given_by (line_at stmts links o) stmts o n) ≡ (counts_at stmts n).lines)
        → IsBegun (counts_at stmts n) (counts_behind (counts_at stmts n) x.0.says)
        ⊎ IsCounted (counts_at stmts n) (counts_behind (counts_at stmts n) x.0.says) (line_at stmts links o n x.0.says)
        → length (given_by (line_at stmts links o) stmts o (suc n)) ≡ (counts_behind (counts_at stmts n) x.0.says).lines
    by before (inl b) =
        let p = b.procedures in
        let less : (counts_at stmts n).procedures < o = omega (arith, p, same) in
        ap (λ m. length (given_by (line_at stmts links o) stmts o m)) more
        ∙ ap (λ (is : List Instruction). length is) (none_yet (line_at stmts links o) stmts o n within less) ∙ sym b.lines
    by before (inr c) =
        let there : (counts_at stmts n).procedures ≡ o = sym c.procedures ∙ same in
        let front = given_by (line_at stmts links o) stmts o n in
        let is = line_at stmts links o n x.0.says in
        ap (λ m. length (given_by (line_at stmts links o) stmts o m)) more
        ∙ ap (λ (ls : List Instruction). length ls) (given_more (line_at stmts links o) stmts o n x.0 x.1 there)
        ∙ length-append front is ∙ ap (λ m. m + length is) (before there) ∙ sym c.lines
