-- The number of procedures in front of a statement never falls from one statement to the next, and rises by one at each PROC.
use Rattle.std.proofs.Common.{◌≡◌, ℕ, zero, suc, ◌+◌, ◌-◌, ◌<◌, ◌≤◌, ◌∙◌, sym, ap, subst, List, length, get_or, arith}
use Rattle.std.specs.Prelude.{◌≢◌}
use Rattle.std.proofs.lemmas.Option.{slice_get-get_or}
use Rattle.il_core.specs.Statement.{Statement, Placed, procedure, variable}
use Rattle.il_types.specs.declared.counts.Counts.{Counts}
use Rattle.il_types.specs.Counts.{counts_behind}
use Rattle.il_types.specs.Names.{counts_at}
use Rattle.il_built.specs.Span.{IsOpening, AreStatementsOf}
use Rattle.il_built.proofs.Given.{counts_next}

-- a statement more has no fewer procedures in front of it
no_fewer : (c : Counts) (x : Statement) → c.procedures ≤ (counts_behind c x).procedures
no_fewer c (procedure name) = omega arith
no_fewer c (variable m name used) = omega arith
no_fewer c x = omega arith

-- a later statement has no fewer procedures in front of it
never_falls : (stmts : List Placed) (d : Placed) (i k : ℕ) → i + k ≤ length stmts → (counts_at stmts i).procedures ≤ (counts_at stmts (i + k)).procedures
never_falls stmts d i zero h = let e : i ≡ i + 0 = omega arith in subst (λ n. (counts_at stmts i).procedures ≤ (counts_at stmts n).procedures) e (omega arith)
never_falls stmts d i (suc k) h =
    let e : suc (i + k) ≡ i + suc k = omega arith in
    let inside : i + k < length stmts = omega arith in
    let x = get_or stmts (i + k) d in
    let next = counts_next stmts (i + k) x (slice_get-get_or stmts (i + k) d inside) in
    let more : (counts_at stmts (i + k)).procedures ≤ (counts_at stmts (suc (i + k))).procedures =
    subst (λ (c : Counts). (counts_at stmts (i + k)).procedures ≤ c.procedures) (sym next) (no_fewer (counts_at stmts (i + k)) x.says) in
    let before : (counts_at stmts i).procedures ≤ (counts_at stmts (i + k)).procedures = never_falls stmts d i k (omega arith) in
    subst (λ n. (counts_at stmts i).procedures ≤ (counts_at stmts n).procedures) e (omega arith)

-- so for statements further on
later : (stmts : List Placed) (d : Placed) (i j : ℕ) → i ≤ j → j ≤ length stmts → (counts_at stmts i).procedures ≤ (counts_at stmts j).procedures
later stmts d i j h within =
    let e : i + (j - i) ≡ j = omega arith in
    subst (λ n. (counts_at stmts i).procedures ≤ (counts_at stmts n).procedures) e (never_falls stmts d i (j - i) (omega arith))

-- behind its PROC a procedure has begun
begun : (stmts : List Placed) (owner at : ℕ) → IsOpening stmts owner at → (counts_at stmts (suc at)).procedures ≡ owner
begun stmts owner at o =
    ap (λ (c : Counts). c.procedures) (counts_next stmts at o.stmt o.there ∙ ap (counts_behind (counts_at stmts at)) o.says) ∙ sym o.number

-- the statements behind a PROC, up to the first that more procedures go before
pub statements_are : (stmts : List Placed) (owner at to : ℕ) → IsOpening stmts owner at → at + 1 ≤ to → to ≤ length stmts
    → ((i : ℕ) → at + 1 ≤ i → i < to → (counts_at stmts i).procedures ≡ owner)
    → (to < length stmts → (counts_at stmts to).procedures ≢ owner)
    → AreStatementsOf stmts owner (at + 1) to
statements_are stmts owner at to o ordered within inside ends = record {
  ordered = ordered;
  within = within;
  inside = inside;
  before = early;
  behind = late;
}
  where
    early : (i : ℕ) → i < at + 1 → (counts_at stmts i).procedures ≢ owner
    early i h e = let l : (counts_at stmts i).procedures ≤ (counts_at stmts at).procedures = later stmts o.stmt i at (omega arith) (omega arith) in
        let n = o.number in absurd (omega arith)

    late : (i : ℕ) → to ≤ i → i < length stmts → (counts_at stmts i).procedures ≢ owner
    late i h lt e =
        let start : (counts_at stmts (suc at)).procedures ≤ (counts_at stmts to).procedures = later stmts o.stmt (suc at) to (omega arith) within in
        let l : (counts_at stmts to).procedures ≤ (counts_at stmts i).procedures = later stmts o.stmt to i h (omega arith) in
        let b = begun stmts owner at o in
        ends (omega arith) (omega arith)
