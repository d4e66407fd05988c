-- Members of lists: behind a push, in a joined list, in a front, and in a mapped one.
use Rattle.std.proofs.Common.{◌≡◌, ◌⊎◌, inl, inr, refl, ap, ℕ, zero, suc, ◌+◌, ◌<◌, List, [], ◌∷◌, ◌++◌, length, map, take, get_or, arith}
use Rattle.std.proofs.lemmas.List.{take_more}
use Rattle.il_core.specs.LineGraph.{IsIn}

-- a member of the left part is one of the whole
pub IsIn-append_left : {X : Type 0} (xs ys : List X) (x : X) → IsIn xs x → IsIn (xs ++ ys) x
IsIn-append_left [] ys x h = absurd h
IsIn-append_left (y ∷ xs) ys x (inl e) = inl e
IsIn-append_left (y ∷ xs) ys x (inr h) = inr (IsIn-append_left xs ys x h)

-- a member of the right part is one of the whole
pub IsIn-append_right : {X : Type 0} (xs ys : List X) (x : X) → IsIn ys x → IsIn (xs ++ ys) x
IsIn-append_right [] ys x h = h
IsIn-append_right (y ∷ xs) ys x h = inr (IsIn-append_right xs ys x h)

-- a member of the whole is one of a part
pub IsIn-append_cases : {X : Type 0} (xs ys : List X) (x : X) → IsIn (xs ++ ys) x → IsIn xs x ⊎ IsIn ys x
IsIn-append_cases [] ys x h = inr h
IsIn-append_cases (y ∷ xs) ys x (inl e) = inl (inl e)
IsIn-append_cases (y ∷ xs) ys x (inr h) = elim (IsIn-append_cases xs ys x h) [ inl p ↦ inl (inr p) | inr p ↦ inr p ]

-- a member behind a push is one from before, or the one pushed
pub IsIn-push_cases : {X : Type 0} (xs : List X) (y x : X) → IsIn (xs ++ y ∷ []) x → IsIn xs x ⊎ (y ≡ x)
IsIn-push_cases xs y x h = elim (IsIn-append_cases xs (y ∷ []) x h) [ inl p ↦ inl p | inr p ↦ elim p [ inl e ↦ inr e | inr q ↦ absurd q ] ]

-- the one pushed is a member
pub IsIn-push : {X : Type 0} (xs : List X) (y : X) → IsIn (xs ++ y ∷ []) y
IsIn-push xs y = IsIn-append_right xs (y ∷ []) y (inl refl)

-- the member of one place
pub IsIn-get_or : {X : Type 0} (xs : List X) (i : ℕ) (d : X) → i < length xs → IsIn xs (get_or xs i d)
IsIn-get_or [] i d h = absurd (omega arith)
IsIn-get_or (x ∷ xs) zero d h = inl refl
IsIn-get_or (x ∷ xs) (suc i) d h = inr (IsIn-get_or xs i d (omega arith))

-- a member of a front with one element more is one of the front, or that element
pub IsIn-more_cases : {X : Type 0} (xs : List X) (i : ℕ) (d x : X) → i < length xs → IsIn (take (i + 1) xs) x → IsIn (take i xs) x ⊎ (get_or xs i d ≡ x)
IsIn-more_cases xs i d x l h = IsIn-push_cases (take i xs) (get_or xs i d) x (rw (take_more xs i d l) at h)

-- a member of a front is one of the front with one element more
pub IsIn-more_old : {X : Type 0} (xs : List X) (i : ℕ) (d x : X) → i < length xs → IsIn (take i xs) x → IsIn (take (i + 1) xs) x
IsIn-more_old xs i d x l h = rw (take_more xs i d l) (IsIn-append_left (take i xs) (get_or xs i d ∷ []) x h)

-- the last element of a front is a member
pub IsIn-more_new : {X : Type 0} (xs : List X) (i : ℕ) (d : X) → i < length xs → IsIn (take (i + 1) xs) (get_or xs i d)
IsIn-more_new xs i d l = rw (take_more xs i d l) (IsIn-push (take i xs) (get_or xs i d))

-- a member of a mapped list comes from a member
pub IsIn-map : {X Y : Type 0} (f : X → Y) (xs : List X) (x : X) → IsIn xs x → IsIn (map f xs) (f x)
IsIn-map f [] x h = h
IsIn-map f (z ∷ xs) x (inl e) = inl (ap f e)
IsIn-map f (z ∷ xs) x (inr h) = inr (IsIn-map f xs x h)

pub IsIn-from_map : {X Y : Type 0} (f : X → Y) (xs : List X) (y : Y) → IsIn (map f xs) y → (x : X) × IsIn xs x × (f x ≡ y)
IsIn-from_map f [] y h = absurd h
IsIn-from_map f (z ∷ xs) y (inl e) = (z, inl refl, e)
IsIn-from_map f (z ∷ xs) y (inr h) = let t = IsIn-from_map f xs y h in (t.0, inr t.1, t.2)
