-- What statements give to procedures, gathered from one statement to the next: what the latest procedure has stands last.
use Rattle.std.proofs.Common.{◌≡◌, ◌≢◌, ℕ, zero, suc, ◌+◌, ◌∙◌, sym, ap, subst, refl, inl, inr, List, [], ◌∷◌, ◌++◌, length, arith, append-nil}
use Rattle.std.specs.Prelude.{Some, slice_get, unwrap_or}
use Rattle.std.proofs.lemmas.Bool.{cases_order}
use Rattle.il_core.specs.Statement.{Statement, Placed}
use Rattle.il_types.specs.Names.{counts_at}
use Rattle.il_built.specs.CheckedText.{of_procedure, given}
use Rattle.il_built.proofs.Given.{given_by, given_next, given_here, not_given}

module _ {A : Type 0} where
  at_last : (xs : List (List A)) (y : List A) (k : ℕ) → k ≡ length xs → unwrap_or (slice_get (xs ++ y ∷ []) k) [] ≡ y
  at_last [] y zero e = refl
  at_last [] y (suc k) e = absurd (omega arith)
  at_last (x ∷ xs) y zero e = absurd (omega arith)
  at_last (x ∷ xs) y (suc k) e = at_last xs y k (omega arith)

  at_other : (xs : List (List A)) (y z : List A) (k : ℕ) → k ≢ length xs
      → unwrap_or (slice_get (xs ++ y ∷ []) k) [] ≡ unwrap_or (slice_get (xs ++ z ∷ []) k) []
  at_other [] y z zero n = absurd (n refl)
  at_other [] y z (suc k) n = refl
  at_other (x ∷ xs) y z zero n = refl
  at_other (x ∷ xs) y z (suc k) n = at_other xs y z k (omega arith)

  one_empty : (xs : List (List A)) (k : ℕ) → unwrap_or (slice_get (xs ++ [] ∷ []) k) [] ≡ unwrap_or (slice_get xs k) []
  one_empty [] zero = refl
  one_empty [] (suc k) = refl
  one_empty (x ∷ xs) zero = refl
  one_empty (x ∷ xs) (suc k) = one_empty xs k

module _ {A : Type 0} (give : ℕ → Statement → List A) (stmts : List Placed) where
  -- the lists that the first n statements give
  pub record AreLists (n : ℕ) (lists : List (List A)) : Type 0 where
    pub each : (k : ℕ) → unwrap_or (slice_get lists k) [] ≡ given_by give stmts k n

  pub lists_start : AreLists 0 ([] ∷ [])
  lists_start = record { each = none }
    where
      none : (k : ℕ) → unwrap_or (slice_get {X = List A} ([] ∷ []) k) [] ≡ []
      none zero = refl
      none (suc k) = refl

  -- a procedure begins
  pub lists_opening : (n : ℕ) (xs : List (List A)) → AreLists n xs → AreLists n (xs ++ [] ∷ [])
  lists_opening n xs g = record { each = λ k. one_empty xs k ∙ g.each k }

  given_more : (k i : ℕ) → given_by give stmts k (i + 1) ≡ given_by give stmts k i ++ of_procedure give stmts k i
  given_more k i = let e : i + 1 ≡ suc i = omega arith in ap (given_by give stmts k) e ∙ given_next give stmts k i

  -- one statement more
  pub lists_more : (i : ℕ) (x : Placed) (xs : List (List A)) (y d : List A) → slice_get stmts i ≡ Some x
      → length xs ≡ (counts_at stmts i).procedures → d ≡ give i x.says → AreLists i (xs ++ y ∷ []) → AreLists (i + 1) (xs ++ (y ++ d) ∷ [])
  lists_more i x xs y d there size e g = record {
    each = λ k. elim (cases_order k (length xs)) [
      | inl here ↦ latest k here
      | inr (inl lt) ↦ earlier k (omega arith)
      | inr (inr gt) ↦ earlier k (omega arith)
    ];
  }
    where
      latest : (k : ℕ) → k ≡ length xs → unwrap_or (slice_get (xs ++ (y ++ d) ∷ []) k) [] ≡ given_by give stmts k (i + 1)
      latest k here =
          let front : y ≡ given_by give stmts k i = sym (at_last xs y k here) ∙ g.each k in
          let own : (counts_at stmts i).procedures ≡ k = sym size ∙ sym here in
          at_last xs (y ++ d) k here ∙ ap (λ a. a ++ d) front
          ∙ ap (λ a. given_by give stmts k i ++ a) (e ∙ sym (given_here give stmts k i x there own)) ∙ sym (given_more k i)

      earlier : (k : ℕ) → k ≢ length xs → unwrap_or (slice_get (xs ++ (y ++ d) ∷ []) k) [] ≡ given_by give stmts k (i + 1)
      earlier k other =
          let own : (counts_at stmts i).procedures ≢ k = λ h. other (sym h ∙ sym size) in
          at_other xs (y ++ d) y k other ∙ g.each k ∙ sym (append-nil (given_by give stmts k i))
          ∙ ap (λ a. given_by give stmts k i ++ a) (sym (not_given give stmts k i x there own)) ∙ sym (given_more k i)

  -- the same lists by other names
  pub lists_again : (n : ℕ) (xs xs' : List (List A)) (y y' : List A) → xs' ≡ xs → y' ≡ y → AreLists n (xs ++ y ∷ []) → AreLists n (xs' ++ y' ∷ [])
  lists_again n xs xs' y y' e h g = subst (λ z. AreLists n (xs' ++ z ∷ [])) (sym h) (subst (λ (zs : List (List A)). AreLists n (zs ++ y ∷ [])) (sym e) g)

  -- behind the last statement
  pub lists_end : (n : ℕ) (lists xs : List (List A)) → n ≡ length stmts → lists ≡ xs → AreLists n xs → (k : ℕ) → unwrap_or (slice_get lists k) [] ≡ given give stmts k
  lists_end n lists xs e f g k = ap (λ (l : List (List A)). unwrap_or (slice_get l k) []) f ∙ g.each k ∙ ap (given_by give stmts k) e
