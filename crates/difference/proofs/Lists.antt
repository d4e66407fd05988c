-- Elements of a list by place: after a push, a write or a cut, and numbers below a limit that stand apart.
use Rattle.std.proofs.Common.{◌≡◌, ◌≢◌, ◌⊎◌, ◌∙◌, inl, inr, ℕ, zero, suc, ◌+◌, ◌<◌, ◌≤◌, eqb, true, false, List, [], ◌∷◌, ◌++◌, length, get_or, set, take, drop, map, Some, slice_get, refl, sym, ap, subst, zero-add, arith, All}
use Rattle.std.proofs.lemmas.Bool.Decides.{nat_tests}
use Rattle.std.proofs.lemmas.Option.{same_Some, none-some, get_or_from_slice_get, slice_get-get_or, slice_get_within}
use Rattle.std.proofs.lemmas.List.Elements.{All-contains}
use Rattle.std.proofs.lemmas.Map.Views.{Contains-from_any}
use Rattle.std.proofs.lemmas.Map.Keys.{IsDistinct-from_apart}
use Rattle.std.proofs.lemmas.Map.Steps.{length-le_from_distinct_below}

-- an element after a push is one from before, or the one pushed
pub get_push : {X : Type 0} (xs : List X) (y : X) (i : ℕ) (x : X) → slice_get (xs ++ y ∷ []) i ≡ Some x
    → (slice_get xs i ≡ Some x) ⊎ ((i ≡ length xs) × (x ≡ y))
get_push [] y zero x e = inr (refl, sym (same_Some y x e))
get_push [] y (suc i) x e = absurd (none-some x e)
get_push (z ∷ xs) y zero x e = inl e
get_push (z ∷ xs) y (suc i) x e = elim (get_push xs y i x e) [ inl p ↦ inl p | inr p ↦ inr (ap suc p.0, p.1) ]

-- an element stays where more is added behind
pub get_append : {X : Type 0} (xs ys : List X) (i : ℕ) (x : X) → slice_get xs i ≡ Some x → slice_get (xs ++ ys) i ≡ Some x
get_append [] ys i x e = absurd (none-some x e)
get_append (z ∷ xs) ys zero x e = e
get_append (z ∷ xs) ys (suc i) x e = get_append xs ys i x e

-- an element of a front is one of the list
pub get_take : {X : Type 0} (n : ℕ) (xs : List X) (i : ℕ) (x : X) → slice_get (take n xs) i ≡ Some x → slice_get xs i ≡ Some x
get_take zero xs i x e = absurd (none-some x e)
get_take (suc n) [] i x e = absurd (none-some x e)
get_take (suc n) (y ∷ xs) zero x e = e
get_take (suc n) (y ∷ xs) (suc i) x e = get_take n xs i x e

-- an element after a write is the one written, or one from before at another place
pub get_set : {X : Type 0} (xs : List X) (k i : ℕ) (y x : X) → slice_get (set xs k y) i ≡ Some x
    → ((i ≡ k) × (x ≡ y)) ⊎ ((i ≢ k) × (slice_get xs i ≡ Some x))
get_set [] k i y x e = absurd (none-some x e)
get_set (z ∷ xs) zero zero y x e = inl (refl, sym (same_Some y x e))
get_set (z ∷ xs) zero (suc i) y x e = inr ((λ p. omega arith), e)
get_set (z ∷ xs) (suc k) zero y x e = inr ((λ p. omega arith), e)
get_set (z ∷ xs) (suc k) (suc i) y x e =
    elim (get_set xs k i y x e) [ inl p ↦ inl (ap suc p.0, p.1) | inr p ↦ inr ((λ q. p.0 (omega arith)), p.1) ]

-- an element of what is left stands further on in the whole
pub get_drop : {X : Type 0} (n : ℕ) (xs : List X) (i : ℕ) → slice_get (drop n xs) i ≡ slice_get xs (n + i)
get_drop zero xs i = rw zero-add refl
get_drop (suc n) [] i = refl
get_drop (suc n) (x ∷ xs) i = let e : suc n + i ≡ suc (n + i) = omega arith in rw e (get_drop n xs i)

-- an element of a mapped list comes from one at its place
pub get_mapped : {X Y : Type 0} (f : X → Y) (xs : List X) (i : ℕ) (y : Y) → slice_get (map f xs) i ≡ Some y
    → (x : X) × (slice_get xs i ≡ Some x) × (f x ≡ y)
get_mapped f [] i y e = absurd (none-some y e)
get_mapped f (x ∷ xs) zero y e = (x, refl, same_Some (f x) y e)
get_mapped f (x ∷ xs) (suc i) y e = get_mapped f xs i y e

-- what holds of each element holds of the one at a place
pub all_at : {X : Type 0} (P : X → Type 0) (xs : List X) (i : ℕ) (x : X) → All P xs → slice_get xs i ≡ Some x → P x
all_at P xs i x h e = subst P (get_or_from_slice_get xs i x x e) (h i x (slice_get_within xs i x e))

-- and the converse
pub all_by : {X : Type 0} (P : X → Type 0) (xs : List X) → ((i : ℕ) (x : X) → slice_get xs i ≡ Some x → P x) → All P xs
all_by P xs h = λ k d l. h k (get_or xs k d) (slice_get-get_or xs k d l)

-- there is an element at each place within
pub get_within : {X : Type 0} (xs : List X) (i : ℕ) → i < length xs → (x : X) × (slice_get xs i ≡ Some x)
get_within [] i l = absurd (omega arith)
get_within (x ∷ xs) zero l = (x, refl)
get_within (x ∷ xs) (suc i) l = get_within xs i (omega arith)

equal_from_test : (x y : ℕ) → eqb x y ≡ true → x ≡ y
equal_from_test x y h = grind (arith, nat_tests)

test_from_apart : (x y : ℕ) → (x ≡ y → ⊥) → eqb x y ≡ false
test_from_apart x y h = grind (arith, nat_tests)

-- numbers below n that stand apart are at most n
pub few_apart : (xs : List ℕ) (n : ℕ) → ((i j x : ℕ) → slice_get xs i ≡ Some x → slice_get xs j ≡ Some x → i ≡ j)
    → All (λ x. x < n) xs → length xs ≤ n
few_apart xs n apart below =
    length-le_from_distinct_below xs n
    (IsDistinct-from_apart eqb xs (λ i j d l k. test_from_apart _ _ (λ e.
    let p : i ≡ j = apart i j (get_or xs j d) (slice_get-get_or xs i d (omega arith) ∙ ap Some e) (slice_get-get_or xs j d k) in
    omega arith)))
    (λ q h. All-contains (λ x. x < n) xs q below (Contains-from_any equal_from_test q xs h))
