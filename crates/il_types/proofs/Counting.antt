-- The list of the counts in front of each statement, with the counts of one statement more.
use Rattle.std.proofs.Common.{◌≡◌, ℕ, ◌+◌, ◌<◌, ◌∙◌, ap, List, [], ◌∷◌, ◌++◌, length, arith, below_more}
use Rattle.std.specs.Prelude.{Some, slice_get}
use Rattle.std.proofs.lemmas.List.{length_push, get_or_push, get_or_append_left}
use Rattle.std.proofs.lemmas.Option.{slice_get-get_or, get_or_from_slice_get}

-- an element of a list that got one more at its end
pub pushed : {X : Type 0} (xs : List X) (i : ℕ) (f : ℕ → X) (x : X) → length xs ≡ i → ((k : ℕ) → k < i → slice_get xs k ≡ Some (f k)) → x ≡ f i
    → (k : ℕ) → k < i + 1 → slice_get (xs ++ x ∷ []) k ≡ Some (f k)
pushed xs i f x size each e =
    below_more _ _ (λ k lt. slice_get-get_or (xs ++ x ∷ []) k x (inside k lt) ∙ ap Some (get_or_append_left xs (x ∷ []) x k (inner k lt) ∙ get_or_from_slice_get xs k (f k) x (each k lt)))
    (slice_get-get_or (xs ++ x ∷ []) i x last ∙ ap Some (get_or_push xs x x i size ∙ e))
  where
    inner : (k : ℕ) → k < i → k < length xs
    inner k lt = omega arith

    inside : (k : ℕ) → k < i → k < length (xs ++ x ∷ [])
    inside k lt = omega (arith, length_push xs x)

    last : i < length (xs ++ x ∷ [])
    last = omega (arith, length_push xs x)
