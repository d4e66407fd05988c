-- Substitution twice is one substitution, and places by themselves change nothing.
use Rattle.std.proofs.Common.{◌≡◌, refl, sym, ap, ◌∙◌, ℕ, zero, suc, ◌<◌, ◌≤◌, pos, inl, inr, List, [], ◌∷◌, ◌++◌, length, map, take, get_or, length-append, arith}
use Rattle.std.proofs.lemmas.List.{map-append}
use Rattle.std.proofs.Math.ListN.{get_or-append}
use Rattle.std.proofs.Math.Seq.{get_or-append_seam, take-suc, take-length}
use Rattle.std.proofs.lemmas.Bool.Decides.{eqb_tells}
use Rattle.il_core.specs.Evaluation.{State}
use Rattle.sym_terms.specs.Tree.{Tree, tree_of, number, variable, sum, product, quotient, remainder}
use Rattle.sym_terms.specs.Value.{value_of}
use Rattle.sym_terms.specs.Substitution.{substituted, term_at, state_of, HasPlacesBelow, trees, variables}
use Rattle.sym_terms.specs.Identity.{own_values}
use Rattle.sym_terms.specs.Places.{HavePlacesBelow}

term_at-map : (xs ys : List Tree) (p : ℕ) → substituted xs (term_at ys p) ≡ term_at (map (substituted xs) ys) p
term_at-map xs [] p = refl
term_at-map xs (y ∷ ys) zero = refl
term_at-map xs (y ∷ ys) (suc p) = term_at-map xs ys p

-- a term under ys and then under xs is the term under ys that were put under xs
pub substituted_twice : (xs ys : List Tree) (t : Tree) → substituted xs (substituted ys t) ≡ substituted (map (substituted xs) ys) t
substituted_twice xs ys (number n) = refl
substituted_twice xs ys (variable p) = term_at-map xs ys p
substituted_twice xs ys (sum a b) = rw (substituted_twice xs ys a, substituted_twice xs ys b) refl
substituted_twice xs ys (product a b) = rw (substituted_twice xs ys a, substituted_twice xs ys b) refl
substituted_twice xs ys (quotient a b) = rw (substituted_twice xs ys a, substituted_twice xs ys b) refl
substituted_twice xs ys (remainder a b) = rw (substituted_twice xs ys a, substituted_twice xs ys b) refl

place-below : (n : ℕ) (xs : List Tree) (p : ℕ) → HavePlacesBelow n xs → HasPlacesBelow n (term_at xs p)
place-below n [] p h = tt
place-below n (x ∷ xs) zero h = h.0
place-below n (x ∷ xs) (suc p) h = place-below n xs p h.1

-- a substituted term speaks of the places of which the terms speak
pub places_substituted : (n : ℕ) (xs : List Tree) (t : Tree) → HavePlacesBelow n xs → HasPlacesBelow n (substituted xs t)
places_substituted n xs (number c) h = tt
places_substituted n xs (variable p) h = place-below n xs p h
places_substituted n xs (sum a b) h = (places_substituted n xs a h, places_substituted n xs b h)
places_substituted n xs (product a b) h = (places_substituted n xs a h, places_substituted n xs b h)
places_substituted n xs (quotient a b) h = (places_substituted n xs a h, places_substituted n xs b h)
places_substituted n xs (remainder a b) h = (places_substituted n xs a h, places_substituted n xs b h)

pub length-own_values : (n : ℕ) → length (own_values n) ≡ n
length-own_values zero = refl
length-own_values (suc n) = omega (arith, length-append (own_values n) (variable n ∷ []), length-own_values n)

-- the term of a place among places by themselves
pub own_place : (n p : ℕ) → p < n → term_at (own_values n) p ≡ variable p
own_place zero p h = absurd (omega arith)
own_place (suc n) p h = elim (eqb_tells p n) [
  | inl same ↦
      let seam : get_or (own_values n ++ variable n ∷ []) (length (own_values n)) (number (pos 0)) ≡ variable n =
      get_or-append_seam (own_values n) (variable n) [] (number (pos 0)) in
      rw (same.1) (rw (length-own_values n) at seam)
  | inr other ↦
      let below : p < n = omega (arith, other.1) in
      let inside : p < length (own_values n) = omega (arith, length-own_values n) in
      get_or-append (own_values n) (variable n ∷ []) (number (pos 0)) p inside ∙ own_place n p below
]

-- places by themselves change no term over these places
pub substituted_own : (n : ℕ) (t : Tree) → HasPlacesBelow n t → substituted (own_values n) t ≡ t
substituted_own n (number c) h = refl
substituted_own n (variable p) h = own_place n p h
substituted_own n (sum a b) h = rw (substituted_own n a h.0, substituted_own n b h.1) refl
substituted_own n (product a b) h = rw (substituted_own n a h.0, substituted_own n b h.1) refl
substituted_own n (quotient a b) h = rw (substituted_own n a h.0, substituted_own n b h.1) refl
substituted_own n (remainder a b) h = rw (substituted_own n a h.0, substituted_own n b h.1) refl

pub own_below : (n : ℕ) → HavePlacesBelow n (own_values n)
own_below n = up_to n n (omega arith)
  where
    joined : (m : ℕ) (xs : List Tree) (t : Tree) → HavePlacesBelow m xs → HasPlacesBelow m t → HavePlacesBelow m (xs ++ t ∷ [])
    joined m [] t h k = (k, tt)
    joined m (x ∷ xs) t h k = (h.0, joined m xs t h.1 k)

    up_to : (m k : ℕ) → k ≤ m → HavePlacesBelow m (own_values k)
    up_to m zero h = tt
    up_to m (suc k) h = joined m (own_values k) (variable k) (up_to m k (omega arith)) (omega arith)

-- what each place by itself becomes under a list is the list
mapped-own : {A : Type 0} (f : Tree → A) (xs : List A) (d : A) (n : ℕ) → ((p : ℕ) → f (variable p) ≡ get_or xs p d) → n ≤ length xs → map f (own_values n) ≡ take n xs
mapped-own f xs d zero h k = refl
mapped-own f xs d (suc n) h k =
    map-append f (own_values n) (variable n ∷ []) ∙ ap (λ ys. ys ++ f (variable n) ∷ []) (mapped-own f xs d n h (omega arith))
    ∙ ap (λ y. take n xs ++ y ∷ []) (h n) ∙ sym (take-suc xs n d (omega arith))

-- places by themselves under a list are the list
pub own_under : (xs : List Tree) (n : ℕ) → length xs ≡ n → map (substituted xs) (own_values n) ≡ xs
own_under xs n e = mapped-own (substituted xs) xs (number (pos 0)) n (λ p. refl) (omega arith) ∙ ap (λ m. take m xs) (sym e) ∙ take-length xs

-- places by themselves give the state itself
pub own_state : (s : State) (n : ℕ) → length s ≡ n → state_of (own_values n) s ≡ s
own_state s n e = mapped-own (λ t. value_of t s) s (pos 0) n (λ p. refl) (omega arith) ∙ ap (λ m. take m s) (sym e) ∙ take-length s

-- the trees of the code's own terms of places
pub trees_own : (n : ℕ) → trees (variables n) ≡ own_values n
trees_own zero = refl
trees_own (suc n) = map-append tree_of (variables n) _ ∙ ap (λ ts. ts ++ variable n ∷ []) (trees_own n)
