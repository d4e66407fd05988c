-- A list that is made number by number: where the elements that each number gives stand.
use Rattle.std.proofs.Common.{◌≡◌, ℕ, zero, suc, ◌+◌, ◌-◌, ◌<◌, ◌≤◌, ◌∙◌, sym, ap, refl, inl, inr, List, [], ◌∷◌, ◌++◌, length, arith}
use Rattle.std.specs.Prelude.{Some, slice_get}
use Rattle.std.proofs.lemmas.Bool.{cases_lt}
use Rattle.std.proofs.lemmas.List.{append-nil, length-append}
use Rattle.std.proofs.lemmas.Option.{slice_get_within}
use Rattle.il_built.proofs.BuiltSorts.{none_some}

-- what the numbers below n give, in their order
abbrev pub upto : {A : Type 0} → (ℕ → List A) → ℕ → List A
upto f zero = []
upto f (suc n) = upto f n ++ f n

-- an element of the first of two lists
get_left : {A : Type 0} (xs ys : List A) (k : ℕ) → k < length xs → slice_get (xs ++ ys) k ≡ slice_get xs k
get_left [] ys k h = absurd (omega (arith, h))
get_left (x ∷ xs) ys zero h = refl
get_left (x ∷ xs) ys (suc k) h = let l : k < length xs = omega (arith, h) in get_left xs ys k l

-- an element of the second
get_right : {A : Type 0} (xs ys : List A) (k : ℕ) → slice_get (xs ++ ys) (length xs + k) ≡ slice_get ys k
get_right [] ys k = let e : 0 + k ≡ k = omega arith in ap (slice_get ys) e
get_right (x ∷ xs) ys k =
    let e : suc (length xs) + k ≡ suc (length xs + k) = omega arith in ap (slice_get (x ∷ (xs ++ ys))) e ∙ get_right xs ys k

-- the element numbered k is given by a number below n
pub record Found {A : Type 0} (f : ℕ → List A) (n k : ℕ) (a : A) : Type 0 where
  pub at : ℕ
  pub below : at < n
  pub part : ℕ
  pub here : slice_get (f at) part ≡ Some a
  pub number : length (upto f at) + part ≡ k

-- each element is
pub found : {A : Type 0} (f : ℕ → List A) (n k : ℕ) (a : A) → slice_get (upto f n) k ≡ Some a → Found f n k a
found f zero k a e = none_some a e
found f (suc n) k a e = elim (cases_lt k (length (upto f n))) [
  | inl less ↦
      let there = found f n k a (sym (get_left (upto f n) (f n) k less) ∙ e) in
      let below : there.at < suc n = omega (arith, there.below) in
      record { at = there.at; below = below; part = there.part; here = there.here; number = there.number }
  | inr more ↦
      let below : n < suc n = omega arith in
      let number : length (upto f n) + (k - length (upto f n)) ≡ k = omega arith in
      record {
        at = n;
        below = below;
        part = k - length (upto f n);
        here = sym (get_right (upto f n) (f n) (k - length (upto f n))) ∙ ap (slice_get (upto f n ++ f n)) number ∙ e;
        number = number;
      }
]

-- what a number gives stands behind what the numbers below it give
pub stands_in : {A : Type 0} (f : ℕ → List A) (n x part : ℕ) (a : A) → x < n → slice_get (f x) part ≡ Some a → slice_get (upto f n) (length (upto f x) + part) ≡ Some a
stands_in f zero x part a h e = absurd (omega (arith, h))
stands_in f (suc n) x part a h e = elim (cases_lt x n) [
  | inl less ↦
      let there : slice_get (upto f n) (length (upto f x) + part) ≡ Some a = stands_in f n x part a less e in
      get_left (upto f n) (f n) (length (upto f x) + part) (slice_get_within (upto f n) (length (upto f x) + part) a there) ∙ there
  | inr more ↦
      let same : x ≡ n = omega arith in
      ap (λ (k : ℕ). slice_get (upto f n ++ f n) (length (upto f k) + part)) same
      ∙ get_right (upto f n) (f n) part ∙ ap (λ (k : ℕ). slice_get (f k) part) (sym same) ∙ e
]

-- where the numbers from m on give nothing, the list ends
pub ends_at : {A : Type 0} (f : ℕ → List A) (m n : ℕ) → m ≤ n → ((y : ℕ) → m ≤ y → y < n → f y ≡ []) → upto f n ≡ upto f m
ends_at f m zero h none = let same : zero ≡ m = omega arith in ap (upto f) same
ends_at f m (suc n) h none = elim (cases_lt n m) [
  | inl less ↦ let same : suc n ≡ m = omega arith in ap (upto f) same
  | inr more ↦
      let last : n < suc n = omega arith in
      ap (λ (xs : List _). upto f n ++ xs) (none n more last) ∙ append-nil (upto f n)
      ∙ ends_at f m n more (λ y low high. let further : y < suc n = omega (arith, high) in none y low further)
]

-- a number more gives so many elements more
pub length_more : {A : Type 0} (f : ℕ → List A) (n : ℕ) → length (upto f (suc n)) ≡ length (upto f n) + length (f n)
length_more f n = length-append (upto f n) (f n)

-- an element of a list of one at most
pub only : {A : Type 0} (xs : List A) (k : ℕ) (a : A) → length xs ≤ 1 → slice_get xs k ≡ Some a → (k ≡ 0) × (xs ≡ a ∷ [])
only [] k a h e = none_some a e
only (x ∷ []) zero a h e = let same : x ≡ a = cc in (refl, ap (λ y. y ∷ []) same)
only (x ∷ []) (suc k) a h e = none_some a e
only (x ∷ y ∷ xs) k a h e = absurd (omega (arith, h))
