-- What holds of each element of a list, by membership.
use Rattle.std.proofs.Common.{◌≡◌, inl, inr, refl, sym, ap, subst, ℕ, zero, suc, List, [], ◌∷◌, ◌++◌, map, Some, slice_get, All}
use Rattle.std.specs.List.{flat_map}
use Rattle.std.proofs.lemmas.Option.{same_Some, none-some}
use Rattle.il_core.specs.LineGraph.{IsIn}
use Rattle.difference.proofs.Lists.{all_at, all_by}
use Rattle.path_inputs.proofs.Members.{in-place, place-of, in-left, in-right, in-either}

pub all-members : {A : Type 0} (P : A → Type 0) (xs : List A) → All P xs → (x : A) → IsIn xs x → P x
all-members P xs h x k = let i = place-of xs x k in all_at P xs i.0 x h i.1

pub members-all : {A : Type 0} (P : A → Type 0) (xs : List A) → ((x : A) → IsIn xs x → P x) → All P xs
members-all P xs h = all_by P xs (λ i x e. h x (in-place xs i x e))

pub all-both : {A : Type 0} (P : A → Type 0) (xs ys : List A) → All P xs → All P ys → All P (xs ++ ys)
all-both P xs ys h k = members-all P (xs ++ ys) (λ x i. elim (in-either xs ys x i) [ inl j ↦ all-members P xs h x j | inr j ↦ all-members P ys k x j ])

pub all-left : {A : Type 0} (P : A → Type 0) (xs ys : List A) → All P (xs ++ ys) → All P xs
all-left P xs ys h = members-all P xs (λ x i. all-members P (xs ++ ys) h x (in-left xs ys x i))

pub all-right : {A : Type 0} (P : A → Type 0) (xs ys : List A) → All P (xs ++ ys) → All P ys
all-right P xs ys h = members-all P ys (λ x i. all-members P (xs ++ ys) h x (in-right xs ys x i))

-- a member of joined lists is a member of one
pub in-flat : {A B : Type 0} (f : A → List B) (xs : List A) (x : A) (y : B) → IsIn xs x → IsIn (f x) y → IsIn (flat_map f xs) y
in-flat f [] x y h k = absurd h
in-flat f (z ∷ xs) x y (inl e) k = in-left (f z) (flat_map f xs) y (subst (λ w. IsIn (f w) y) (sym e) k)
in-flat f (z ∷ xs) x y (inr h) k = in-right (f z) (flat_map f xs) y (in-flat f xs x y h k)

pub from-flat : {A B : Type 0} (f : A → List B) (xs : List A) (y : B) → IsIn (flat_map f xs) y → (x : A) × IsIn xs x × IsIn (f x) y
from-flat f [] y h = absurd h
from-flat f (z ∷ xs) y h = elim (in-either (f z) (flat_map f xs) y h) [
  | inl k ↦ (z, inl refl, k)
  | inr k ↦ let r = from-flat f xs y k in (r.0, inr r.1, r.2)
]

pub from-map : {A B : Type 0} (f : A → B) (xs : List A) (y : B) → IsIn (map f xs) y → (x : A) × IsIn xs x × (f x ≡ y)
from-map f [] y h = absurd h
from-map f (z ∷ xs) y (inl e) = (z, inl refl, e)
from-map f (z ∷ xs) y (inr k) = let r = from-map f xs y k in (r.0, inr r.1, r.2)

pub flat-map_map : {A B C : Type 0} (f : B → List C) (g : A → B) (xs : List A) → flat_map (λ x. f (g x)) xs ≡ flat_map f (map g xs)
flat-map_map f g [] = refl
flat-map_map f g (x ∷ xs) = ap (λ ys. f (g x) ++ ys) (flat-map_map f g xs)

pub get-map : {A B : Type 0} (f : A → B) (xs : List A) (k : ℕ) (x : A) → slice_get xs k ≡ Some x → slice_get (map f xs) k ≡ Some (f x)
get-map f [] k x e = absurd (none-some x e)
get-map f (y ∷ xs) zero x e = ap (λ z. Some (f z)) (same_Some y x e)
get-map f (y ∷ xs) (suc k) x e = get-map f xs k x e
