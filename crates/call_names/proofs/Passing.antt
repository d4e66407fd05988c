-- A list is gone through for the first name that is found.
use Rattle.std.proofs.Common.{◌≡◌, ℕ, ◌+◌, ◌<◌, ◌≤◌, ◌∙◌, sym, ap, refl, cond, Bool, true, false, List, ◌∷◌, length, drop, get_or, if◌then◌else◌}
use Rattle.std.specs.Prelude.{Option, Some, None, map, find, filter}
use Rattle.std.proofs.lemmas.List.{drop_more, drop_all}

-- what is left from an element on
pub left : {A : Type 0} (xs : List A) (i : ℕ) (x : A) → i < length xs → x ≡ get_or xs i x → drop i xs ≡ x ∷ drop (i + 1) xs
left xs i x h e = drop_more xs i x h ∙ ap (λ y. y ∷ drop (i + 1) xs) (sym e)

taken : {B : Type 0} (b : Bool) (y z : B) (o rest : Option B) → o ≡ (if b then Some y else None) → o ≡ Some z → cond b (Some y) rest ≡ Some z
taken true y z o rest e h = sym e ∙ h
taken false y z o rest e h = absurd (none (sym e ∙ h))
  where
    none : {B : Type 0} {z : B} → None ≡ Some z → ⊥
    none h = cc

passed : {B : Type 0} (b : Bool) (y : B) (o rest : Option B) → o ≡ (if b then Some y else None) → o ≡ None → rest ≡ cond b (Some y) rest
passed true y o rest e h = absurd (some (sym e ∙ h))
  where
    some : {B : Type 0} {z : B} → Some z ≡ None → ⊥
    some h = cc
passed false y o rest e h = refl

module _ {A B : Type 0} (test : B → Bool) (f : A → B) where
  pub find_here : (xs : List A) (i : ℕ) (x : A) (o : Option B) (y : B) → i < length xs → x ≡ get_or xs i x → o ≡ (if test (f x) then Some (f x) else None) → o ≡ Some y
      → find test (map f (drop i xs)) ≡ Some y
  find_here xs i x o y h e is some =
      ap (λ ys. find test (map f ys)) (left xs i x h e) ∙ taken (test (f x)) (f x) y o (find test (map f (drop (i + 1) xs))) is some

  pub find_passed : (xs : List A) (i : ℕ) (x : A) (o : Option B) → i < length xs → x ≡ get_or xs i x → o ≡ (if test (f x) then Some (f x) else None) → o ≡ None
      → find test (map f (drop (i + 1) xs)) ≡ find test (map f (drop i xs))
  find_passed xs i x o h e is none =
      passed (test (f x)) (f x) o (find test (map f (drop (i + 1) xs))) is none ∙ sym (ap (λ ys. find test (map f ys)) (left xs i x h e))

  pub find_end : (xs : List A) (i : ℕ) → length xs ≤ i → find test (map f (drop i xs)) ≡ None
  find_end xs i h = ap (λ ys. find test (map f ys)) (drop_all i xs h)

-- the same among those that a first test keeps
module _ {A B : Type 0} (kept : A → Bool) (test : B → Bool) (f : A → B) where
  abbrev answer : Bool → A → Option B
  answer b x = if b then (if test (f x) then Some (f x) else None) else None

  some_kept : (b : Bool) (x : A) (o : Option B) (y : B) (rest : List A) → o ≡ answer b x → o ≡ Some y → find test (map f (cond b (x ∷ rest) rest)) ≡ Some y
  some_kept true x o y rest e h = taken (test (f x)) (f x) y o (find test (map f rest)) e h
  some_kept false x o y rest e h = absurd (none (sym e ∙ h))
    where
      none : {z : B} → None ≡ Some z → ⊥
      none h = cc

  none_kept : (b : Bool) (x : A) (o : Option B) (rest : List A) → o ≡ answer b x → o ≡ None → find test (map f rest) ≡ find test (map f (cond b (x ∷ rest) rest))
  none_kept true x o rest e h = passed (test (f x)) (f x) o (find test (map f rest)) e h
  none_kept false x o rest e h = refl

  pub kept_here : (xs : List A) (i : ℕ) (x : A) (o : Option B) (y : B) → i < length xs → x ≡ get_or xs i x → o ≡ answer (kept x) x → o ≡ Some y
      → find test (map f (filter kept (drop i xs))) ≡ Some y
  kept_here xs i x o y h e is some =
      ap (λ ys. find test (map f (filter kept ys))) (left xs i x h e) ∙ some_kept (kept x) x o y (filter kept (drop (i + 1) xs)) is some

  pub kept_passed : (xs : List A) (i : ℕ) (x : A) (o : Option B) → i < length xs → x ≡ get_or xs i x → o ≡ answer (kept x) x → o ≡ None
      → find test (map f (filter kept (drop (i + 1) xs))) ≡ find test (map f (filter kept (drop i xs)))
  kept_passed xs i x o h e is none =
      none_kept (kept x) x o (filter kept (drop (i + 1) xs)) is none ∙ sym (ap (λ ys. find test (map f (filter kept ys))) (left xs i x h e))

  pub kept_end : (xs : List A) (i : ℕ) → length xs ≤ i → find test (map f (filter kept (drop i xs))) ≡ None
  kept_end xs i h = ap (λ ys. find test (map f (filter kept ys))) (drop_all i xs h)
