-- Members of filtered lists and of fronts of lists.
use Rattle.std.proofs.Common.{◌≡◌, inl, inr, refl, sym, ap, ◌∙◌, ℕ, zero, suc, ◌<◌, Bool, true, false, cond, List, [], ◌∷◌, length, take, get_or, arith}
use Rattle.std.specs.Prelude.{filter}
use Rattle.il_core.specs.LineGraph.{IsIn}

module _ {X : Type 0} where
  -- a member of a filtered list is one of the list, and passes
  pub from_filter : (p : X → Bool) (xs : List X) (x : X) → IsIn (filter p xs) x → IsIn xs x × (p x ≡ true)
  from_filter p [] x i = absurd i
  from_filter p (y ∷ xs) x i = by_test (p y) refl i (from_filter p xs x)
    where
      by_test : (t : Bool) → p y ≡ t → IsIn (cond t (y ∷ filter p xs) (filter p xs)) x → (IsIn (filter p xs) x → IsIn xs x × (p x ≡ true)) → IsIn (y ∷ xs) x × (p x ≡ true)
      by_test true e (inl k) later = (inl k, ap p (sym k) ∙ e)
      by_test true e (inr j) later = let t = later j in (inr t.0, t.1)
      by_test false e j later = let t = later j in (inr t.0, t.1)

  -- a member of a front of a list is one of the list
  pub from_take : (n : ℕ) (xs : List X) (x : X) → IsIn (take n xs) x → IsIn xs x
  from_take zero xs x i = absurd i
  from_take (suc n) [] x i = absurd i
  from_take (suc n) (y ∷ xs) x (inl e) = inl e
  from_take (suc n) (y ∷ xs) x (inr i) = inr (from_take n xs x i)

-- a member of a list of numbers stands at a place
pub place_of : (xs : List ℕ) (k : ℕ) → IsIn xs k → (m : ℕ) × (m < length xs) × (get_or xs m 0 ≡ k)
place_of [] k i = absurd i
place_of (x ∷ xs) k (inl e) = (0, omega arith, e)
place_of (x ∷ xs) k (inr i) = let t = place_of xs k i in let b = t.1 in (suc t.0, omega (arith, b), t.2)
