-- What the statements of a procedure give, each at most one value.
use Rattle.std.proofs.Common.{◌≡◌, ◌≢◌, ◌⊎◌, ℕ, zero, suc, ◌+◌, ◌≤◌, ◌∙◌, sym, ap, refl, inl, inr, List, [], ◌∷◌, ◌++◌, length, arith}
use Rattle.std.specs.Prelude.{Option, Some, None, slice_get}
use Rattle.std.proofs.lemmas.Bool.{cases_eq}
use Rattle.il_core.specs.Statement.{Statement, Placed}
use Rattle.il_types.specs.Names.{counts_at}
use Rattle.il_built.specs.CheckedText.{of_procedure, given}
use Rattle.il_built.proofs.CheckedLinesUpto.{upto, Found, found, only}
use Rattle.il_built.proofs.Given.{given_by, given_next, given_here, not_given, stands}

-- what is given is given number by number
pub given_is : {A : Type 0} (give : ℕ → Statement → List A) (stmts : List Placed) (k n : ℕ) → given_by give stmts k n ≡ upto (of_procedure give stmts k) n
given_is give stmts k zero = refl
given_is give stmts k (suc n) = given_next give stmts k n ∙ ap (λ (xs : List _). xs ++ of_procedure give stmts k n) (given_is give stmts k n)

-- the value numbered n is that of a statement of the procedure
pub record IsGiven {A : Type 0} (give : ℕ → Statement → List A) (stmts : List Placed) (k n : ℕ) (a : A) : Type 0 where
  pub at : ℕ
  pub stmt : Placed
  pub there : slice_get stmts at ≡ Some stmt
  pub own : (counts_at stmts at).procedures ≡ k
  pub gives : give at stmt.says ≡ a ∷ []
  pub number : length (upto (of_procedure give stmts k) at) ≡ n

found_by : {A : Type 0} (give : ℕ → Statement → List A) (stmts : List Placed) (k n : ℕ) (a : A) → ((i : ℕ) (x : Statement) → length (give i x) ≤ 1)
    → (f : Found (of_procedure give stmts k) (length stmts) n a) → (s : Placed) → slice_get stmts f.at ≡ Some s
    → ((counts_at stmts f.at).procedures ≡ k) ⊎ ((counts_at stmts f.at).procedures ≢ k) → IsGiven give stmts k n a
found_by give stmts k n a few f s at (inl own) =
    let same = given_here give stmts k f.at s at own in
    let one = only (give f.at s.says) f.part a (few f.at s.says) (ap (λ (xs : List _). slice_get xs f.part) (sym same) ∙ f.here) in
    let first : f.part ≡ 0 = one.0 in
    let place : length (upto (of_procedure give stmts k) f.at) + f.part ≡ n = f.number in
    let number : length (upto (of_procedure give stmts k) f.at) ≡ n = omega (arith, first, place) in
    record { at = f.at; stmt = s; there = at; own = own; gives = one.1; number = number }
found_by give stmts k n a few f s at (inr other) =
    let z : ◌≡◌ {A = Option _} None (Some a) = ap (λ (xs : List _). slice_get xs f.part) (sym (not_given give stmts k f.at s at other)) ∙ f.here in
    absurd (cc)

-- each value is given by one
pub given_found : {A : Type 0} (give : ℕ → Statement → List A) (stmts : List Placed) (k n : ℕ) (a : A) → ((i : ℕ) (x : Statement) → length (give i x) ≤ 1)
    → slice_get (given give stmts k) n ≡ Some a → IsGiven give stmts k n a
given_found give stmts k n a few e =
    let f = found (of_procedure give stmts k) (length stmts) n a (ap (λ (xs : List _). slice_get xs n) (sym (given_is give stmts k (length stmts))) ∙ e) in
    let s = stands stmts f.at f.below in
    found_by give stmts k n a few f s.0 s.1 (cases_eq (counts_at stmts f.at).procedures k)
