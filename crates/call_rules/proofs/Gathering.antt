-- The parameters of all procedures, gathered from one statement to the next: the latest procedure's stand last.
use Rattle.std.proofs.Common.{◌≡◌, ◌≢◌, ℕ, zero, suc, ◌+◌, ◌<◌, ◌∙◌, sym, ap, subst, refl, inl, inr, Bool, get_or, List, [], ◌∷◌, ◌++◌, length, arith, append-nil, if◌then◌else◌}
use Rattle.std.specs.Prelude.{Some, map, slice_get, unwrap_or}
use Rattle.std.proofs.lemmas.Bool.{cases_order}
use Rattle.il_core.specs.Statement.{Statement, Placed, placed, statement_of, procedure}
use Rattle.il_core.specs.declared.statement.Stmt.{Stmt}
use Rattle.il_types.specs.declared.counts.Counts.{Counts}
use Rattle.il_types.specs.Counts.{counts_behind}
use Rattle.il_types.specs.Names.{counts_at}
use Rattle.il_types.proofs.Passing.{counts_more}
use Rattle.il_built.specs.CheckedText.{of_procedure}
use Rattle.il_built.specs.Holding.{setting_at}
use Rattle.il_built.proofs.Given.{given_by, given_next, given_here, not_given}
use Rattle.call_rules.specs.declared.parameters.Parameter.{Parameter}
use Rattle.call_rules.specs.Parameters.{declared_parameter, is_procedure, AreParameters}

abbrev pub give : List Placed → ℕ → Statement → List Parameter
give stmts i x = declared_parameter (setting_at stmts i) x

-- the lists of the parameters that the first n statements declare
pub record AreGathered (stmts : List Placed) (n : ℕ) (lists : List (List Parameter)) : Type 0 where
  pub each : (k : ℕ) → unwrap_or (slice_get lists k) [] ≡ given_by (give stmts) stmts k n

pub gathered_start : (stmts : List Placed) → AreGathered stmts 0 ([] ∷ [])
gathered_start stmts = record { each = none }
  where
    none : (k : ℕ) → unwrap_or (slice_get {X = List Parameter} ([] ∷ []) k) [] ≡ []
    none zero = refl
    none (suc k) = refl

at_last : (xs : List (List Parameter)) (y : List Parameter) (k : ℕ) → k ≡ length xs → unwrap_or (slice_get (xs ++ y ∷ []) k) [] ≡ y
at_last [] y zero e = refl
at_last [] y (suc k) e = absurd (omega arith)
at_last (x ∷ xs) y zero e = absurd (omega arith)
at_last (x ∷ xs) y (suc k) e = at_last xs y k (omega arith)

at_other : (xs : List (List Parameter)) (y z : List Parameter) (k : ℕ) → k ≢ length xs
    → unwrap_or (slice_get (xs ++ y ∷ []) k) [] ≡ unwrap_or (slice_get (xs ++ z ∷ []) k) []
at_other [] y z zero n = absurd (n refl)
at_other [] y z (suc k) n = refl
at_other (x ∷ xs) y z zero n = refl
at_other (x ∷ xs) y z (suc k) n = at_other xs y z k (omega arith)

one_empty : (xs : List (List Parameter)) (k : ℕ) → unwrap_or (slice_get (xs ++ [] ∷ []) k) [] ≡ unwrap_or (slice_get xs k) []
one_empty [] zero = refl
one_empty [] (suc k) = refl
one_empty (x ∷ xs) zero = refl
one_empty (x ∷ xs) (suc k) = one_empty xs k

-- a procedure begins
pub gathered_opening : (stmts : List Placed) (n : ℕ) (xs : List (List Parameter)) → AreGathered stmts n xs → AreGathered stmts n (xs ++ [] ∷ [])
gathered_opening stmts n xs g = record { each = λ k. one_empty xs k ∙ g.each k }

-- what one statement more gives to a procedure
given_more : (stmts : List Placed) (k i : ℕ) → given_by (give stmts) stmts k (i + 1) ≡ given_by (give stmts) stmts k i ++ of_procedure (give stmts) stmts k i
given_more stmts k i = let e : i + 1 ≡ suc i = omega arith in ap (given_by (give stmts) stmts k) e ∙ given_next (give stmts) stmts k i

-- one statement more
pub gathered_more : (stmts : List Placed) (i : ℕ) (x : Placed) (xs : List (List Parameter)) (y d : List Parameter) → slice_get stmts i ≡ Some x
    → length xs ≡ (counts_at stmts i).procedures → d ≡ give stmts i x.says → AreGathered stmts i (xs ++ y ∷ []) → AreGathered stmts (i + 1) (xs ++ (y ++ d) ∷ [])
gathered_more stmts i x xs y d there size e g = record {
  each = λ k. elim (cases_order k (length xs)) [
    | inl here ↦ latest k here
    | inr (inl lt) ↦ earlier k (omega arith)
    | inr (inr gt) ↦ earlier k (omega arith)
  ];
}
  where
    latest : (k : ℕ) → k ≡ length xs → unwrap_or (slice_get (xs ++ (y ++ d) ∷ []) k) [] ≡ given_by (give stmts) stmts k (i + 1)
    latest k here =
        let front : y ≡ given_by (give stmts) stmts k i = sym (at_last xs y k here) ∙ g.each k in
        let own : (counts_at stmts i).procedures ≡ k = sym size ∙ sym here in
        at_last xs (y ++ d) k here ∙ ap (λ a. a ++ d) front
        ∙ ap (λ a. given_by (give stmts) stmts k i ++ a) (e ∙ sym (given_here (give stmts) stmts k i x there own)) ∙ sym (given_more stmts k i)

    earlier : (k : ℕ) → k ≢ length xs → unwrap_or (slice_get (xs ++ (y ++ d) ∷ []) k) [] ≡ given_by (give stmts) stmts k (i + 1)
    earlier k other =
        let own : (counts_at stmts i).procedures ≢ k = λ h. other (sym h ∙ sym size) in
        at_other xs (y ++ d) y k other ∙ g.each k ∙ sym (append-nil (given_by (give stmts) stmts k i))
        ∙ ap (λ a. given_by (give stmts) stmts k i ++ a) (sym (not_given (give stmts) stmts k i x there own)) ∙ sym (given_more stmts k i)

-- the procedures behind a statement
procedures_behind : (c : Counts) (x : Statement) → (counts_behind c x).procedures ≡ (if is_procedure x then c.procedures + 1 else c.procedures)
procedures_behind c (procedure name) = refl
procedures_behind c x = refl

pub procedures_more : (stmts : List Stmt) (i : ℕ) (x : Stmt) (n : ℕ) (b : Bool) → i < length stmts → x ≡ get_or stmts i x → n ≡ (counts_at (map placed stmts) i).procedures
    → b ≡ is_procedure (statement_of x.form) → (counts_at (map placed stmts) (i + 1)).procedures ≡ (if b then n + 1 else n)
procedures_more stmts i x n b h e size is =
    ap (λ (c : Counts). c.procedures) (sym (counts_more stmts i x (counts_at (map placed stmts) i) h e refl))
    ∙ procedures_behind (counts_at (map placed stmts) i) (statement_of x.form)
    ∙ ap (λ t. if t then (counts_at (map placed stmts) i).procedures + 1 else (counts_at (map placed stmts) i).procedures) (sym is)
    ∙ ap (λ m. if b then m + 1 else m) (sym size)

-- the same lists by other names
pub gathered_again : (stmts : List Placed) (n : ℕ) (xs xs' : List (List Parameter)) (y y' : List Parameter) → xs' ≡ xs → y' ≡ y
    → AreGathered stmts n (xs ++ y ∷ []) → AreGathered stmts n (xs' ++ y' ∷ [])
gathered_again stmts n xs xs' y y' e h g =
    subst (λ z. AreGathered stmts n (xs' ++ z ∷ [])) (sym h) (subst (λ (zs : List (List Parameter)). AreGathered stmts n (zs ++ y ∷ [])) (sym e) g)

-- behind the last statement
pub gathered_end : (stmts : List Placed) (n : ℕ) (xs : List (List Parameter)) → n ≡ length stmts → AreGathered stmts n xs → AreParameters stmts xs
gathered_end stmts n xs e g = record { each = λ k. g.each k ∙ ap (given_by (give stmts) stmts k) e }
