-- Members of lists that are joined, filtered and cut.
use Rattle.std.proofs.Common.{◌≡◌, ◌⊎◌, inl, inr, ◌∙◌, refl, sym, ap, ℕ, zero, suc, ◌≤◌, Bool, true, false, cond, List, [], ◌∷◌, ◌++◌, length, take, drop, Some, slice_get, arith}
use Rattle.std.specs.Prelude.{filter}
use Rattle.std.proofs.lemmas.Option.{same_Some, none-some}
use Rattle.il_core.specs.LineGraph.{IsIn}

module _ {A : Type 0} where
  pub in-left : (xs ys : List A) (x : A) → IsIn xs x → IsIn (xs ++ ys) x
  in-left [] ys x h = absurd h
  in-left (y ∷ xs) ys x (inl e) = inl e
  in-left (y ∷ xs) ys x (inr h) = inr (in-left xs ys x h)

  pub in-right : (xs ys : List A) (x : A) → IsIn ys x → IsIn (xs ++ ys) x
  in-right [] ys x h = h
  in-right (y ∷ xs) ys x h = inr (in-right xs ys x h)

  pub in-either : (xs ys : List A) (x : A) → IsIn (xs ++ ys) x → IsIn xs x ⊎ IsIn ys x
  in-either [] ys x h = inr h
  in-either (y ∷ xs) ys x (inl e) = inl (inl e)
  in-either (y ∷ xs) ys x (inr h) = elim (in-either xs ys x h) [ inl k ↦ inl (inr k) | inr k ↦ inr k ]

  pub in-take : (n : ℕ) (xs : List A) (x : A) → IsIn (take n xs) x → IsIn xs x
  in-take zero xs x h = absurd h
  in-take (suc n) [] x h = absurd h
  in-take (suc n) (y ∷ xs) x (inl e) = inl e
  in-take (suc n) (y ∷ xs) x (inr h) = inr (in-take n xs x h)

  pub in-take_more : (n : ℕ) (xs ys : List A) (x : A) → IsIn (take n xs) x → IsIn (take n (xs ++ ys)) x
  in-take_more zero xs ys x h = h
  in-take_more (suc n) [] ys x h = absurd h
  in-take_more (suc n) (y ∷ xs) ys x (inl e) = inl e
  in-take_more (suc n) (y ∷ xs) ys x (inr h) = inr (in-take_more n xs ys x h)

  pub in-take_or_drop : (n : ℕ) (xs : List A) (x : A) → IsIn xs x → IsIn (take n xs) x ⊎ IsIn (drop n xs) x
  in-take_or_drop zero xs x h = inr h
  in-take_or_drop (suc n) [] x h = absurd h
  in-take_or_drop (suc n) (y ∷ xs) x (inl e) = inl (inl e)
  in-take_or_drop (suc n) (y ∷ xs) x (inr h) = elim (in-take_or_drop n xs x h) [ inl k ↦ inl (inr k) | inr k ↦ inr k ]

  pub in-drop : (n : ℕ) (xs : List A) (x : A) → IsIn (drop n xs) x → IsIn xs x
  in-drop zero xs x h = h
  in-drop (suc n) [] x h = absurd h
  in-drop (suc n) (y ∷ xs) x h = inr (in-drop n xs x h)

  pub in-take_all : (n : ℕ) (xs : List A) (x : A) → length xs ≤ n → IsIn xs x → IsIn (take n xs) x
  in-take_all n [] x l h = absurd h
  in-take_all zero (y ∷ xs) x l h = absurd (omega arith)
  in-take_all (suc n) (y ∷ xs) x l (inl e) = inl e
  in-take_all (suc n) (y ∷ xs) x l (inr h) = inr (in-take_all n xs x (omega arith) h)

  filter-first : (p : A → Bool) (y : A) (ys : List A) (x : A) (b : Bool) → p y ≡ b → p x ≡ true → y ≡ x → IsIn (cond b (y ∷ ys) ys) x
  filter-first p y ys x true e t k = inl k
  filter-first p y ys x false e t k = let f : true ≡ false = sym t ∙ (ap p (sym k) ∙ e) in absurd cc

  filter-later : (y : A) (ys : List A) (x : A) (b : Bool) → IsIn ys x → IsIn (cond b (y ∷ ys) ys) x
  filter-later y ys x true k = inr k
  filter-later y ys x false k = k

  pub in-filter : (p : A → Bool) (xs : List A) (x : A) → IsIn xs x → p x ≡ true → IsIn (filter p xs) x
  in-filter p [] x h t = absurd h
  in-filter p (y ∷ xs) x (inl k) t = filter-first p y (filter p xs) x (p y) refl t k
  in-filter p (y ∷ xs) x (inr k) t = filter-later y (filter p xs) x (p y) (in-filter p xs x k t)

  filter-either : (p : A → Bool) (y : A) (ys : List A) (x : A) (b : Bool) → p y ≡ b → IsIn (cond b (y ∷ ys) ys) x → ((y ≡ x) × (p x ≡ true)) ⊎ IsIn ys x
  filter-either p y ys x true e (inl k) = inl (k, ap p (sym k) ∙ e)
  filter-either p y ys x true e (inr k) = inr k
  filter-either p y ys x false e k = inr k

  pub from-filter : (p : A → Bool) (xs : List A) (x : A) → IsIn (filter p xs) x → IsIn xs x × (p x ≡ true)
  from-filter p [] x h = absurd h
  from-filter p (y ∷ xs) x h = elim (filter-either p y (filter p xs) x (p y) refl h) [
    | inl k ↦ (inl k.0, k.1)
    | inr k ↦ let r = from-filter p xs x k in (inr r.0, r.1)
  ]

  pub in-place : (xs : List A) (i : ℕ) (x : A) → slice_get xs i ≡ Some x → IsIn xs x
  in-place [] i x e = absurd (none-some x e)
  in-place (y ∷ xs) zero x e = inl (same_Some y x e)
  in-place (y ∷ xs) (suc i) x e = inr (in-place xs i x e)

  pub place-of : (xs : List A) (x : A) → IsIn xs x → (i : ℕ) × (slice_get xs i ≡ Some x)
  place-of [] x h = absurd h
  place-of (y ∷ xs) x (inl e) = (0, ap Some e)
  place-of (y ∷ xs) x (inr h) = let r = place-of xs x h in (suc r.0, r.1)
