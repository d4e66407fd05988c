-- In front of a statement there are no more variables, and no more OLD copies, than statements.
use Rattle.std.proofs.Common.{ℕ, zero, suc, ◌<◌, ◌≤◌, sym, subst, Bool, true, false, List, [], ◌∷◌, length, get_or, arith}
use Rattle.std.proofs.lemmas.Option.{slice_get-get_or}
use Rattle.il_core.specs.Run.{is_inout}
use Rattle.il_core.specs.Statement.{Statement, Placed, procedure, variable}
use Rattle.il_types.specs.declared.counts.Counts.{Counts}
use Rattle.il_types.specs.Counts.{one_if, counts_behind}
use Rattle.il_types.specs.Names.{counts_at}
use Rattle.il_built.proofs.Given.{counts_next}

-- counts with at most n variables and at most n OLD copies
pub record AreAtMost (c : Counts) (n : ℕ) : Type 0 where
  pub variables : c.variables ≤ n
  pub copies : c.copies ≤ n

-- a test counts as one at most
one_at_most : (b : Bool) → one_if b ≤ 1
one_at_most true = omega arith
one_at_most false = omega arith

-- a statement adds at most one of each
one_more : (c : Counts) (x : Statement) (n : ℕ) → AreAtMost c n → AreAtMost (counts_behind c x) (suc n)
one_more c (procedure name) n a = record { variables = omega arith; copies = omega arith }
one_more c (variable m name used) n a =
    let v = a.variables in
    let k = a.copies in
    let one = one_at_most (is_inout m) in
    record { variables = omega arith; copies = omega arith }
one_more c x n a =
    let v = a.variables in
    let k = a.copies in
    record { variables = omega arith; copies = omega arith }

-- what the statements in front of one come to
at_most_with : (stmts : List Placed) (d : Placed) (i : ℕ) → i ≤ length stmts → AreAtMost (counts_at stmts i) i
at_most_with stmts d zero h = record { variables = omega arith; copies = omega arith }
at_most_with stmts d (suc i) h =
    let inside : i < length stmts = omega arith in
    let x = get_or stmts i d in
    subst (λ (c : Counts). AreAtMost c (suc i)) (sym (counts_next stmts i x (slice_get-get_or stmts i d inside)))
    (one_more (counts_at stmts i) x.says i (at_most_with stmts d i (omega arith)))

-- in front of each statement of a text
pub counts_at_most : (stmts : List Placed) (i : ℕ) → i < length stmts → AreAtMost (counts_at stmts i) i
counts_at_most [] i h = absurd (omega arith)
counts_at_most (x ∷ rest) i h = at_most_with (x ∷ rest) x i (omega arith)
