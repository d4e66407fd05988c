-- A sum of numbers and places that has one value in all states has no part left.
use Rattle.std.proofs.Common.{◌≡◌, ◌≢◌, ◌∙◌, refl, sym, ap, ℕ, zero, suc, ℤ, pos, ◌+ℤ◌, ◌*ℤ◌, List, [], ◌∷◌, ◌++◌, map, arith}
use Rattle.std.proofs.Math.IntN.{+ℤ_idl, *ℤ-zero}
use Rattle.std.proofs.lemmas.Cmp.{nat_cmp_total, tied_itself}
use Rattle.std.proofs.lemmas.Int.{ints}
use Rattle.std.specs.Ordering.{nat_cmp}
use Rattle.std.specs.declared.cmp.Ordering.{Ordering}
use Rattle.std.specs.declared.cmp.Ordering.TheVariants.{Less, Equal, Greater}
use Rattle.il_core.specs.Evaluation.{State, value_at}
use Rattle.sym_simplify.specs.Form.{Kind, Form, constant, Factor, place, pair}
use Rattle.sym_simplify.specs.Norm.{Summand, alone, often, scaled, normal_of}
use Rattle.sym_simplify.specs.Normal.{where_equal, numbers_sum, coefficients_sum}
use Rattle.sym_simplify.proofs.NormValues.{total, add-assoc}
use Rattle.sym_simplify.proofs.Ordered.{equal-numbers}
use Rattle.sym_simplify.proofs.Unique.{same_normal, coefficient_is, constant_is, ordered_is}
use Rattle.threat_certs.specs.Counting.{IsOfPlaces}

pub places-append : (xs ys : List Summand) → IsOfPlaces xs → IsOfPlaces ys → IsOfPlaces (xs ++ ys)
places-append [] ys h k = k
places-append (alone c ∷ xs) ys h k = places-append xs ys h k
places-append (often c (place p) ∷ xs) ys h k = places-append xs ys h k
places-append (often c (pair l m n) ∷ xs) ys h k = absurd h

pub places-scaled : (c : ℤ) (xs : List Summand) → IsOfPlaces xs → IsOfPlaces (map (scaled c) xs)
places-scaled c [] h = tt
places-scaled c (alone d ∷ xs) h = places-scaled c xs h
places-scaled c (often d (place p) ∷ xs) h = places-scaled c xs h
places-scaled c (often d (pair l m n) ∷ xs) h = absurd h

-- the state in which place p is 1 and each other place 0
abbrev unit : ℕ → State
unit zero = pos 1 ∷ []
unit (suc p) = pos 0 ∷ unit p

unit-same : (p : ℕ) → value_at (unit p) p ≡ pos 1
unit-same zero = refl
unit-same (suc p) = unit-same p

unit-other : (p q : ℕ) → p ≢ q → value_at (unit p) q ≡ pos 0
unit-other zero zero h = absurd (h refl)
unit-other zero (suc q) h = refl
unit-other (suc p) zero h = refl
unit-other (suc p) (suc q) h = unit-other p q (λ e. h (ap suc e))

pub times-one : (c : ℤ) → c *ℤ pos 1 ≡ c
times-one c = grind (arith, ints)

-- where each place is 0, the numbers are left
numbers-total : (xs : List Summand) → IsOfPlaces xs → total xs [] ≡ numbers_sum xs
numbers-total [] h = refl
numbers-total (alone c ∷ xs) h = ap (λ v. c +ℤ v) (numbers-total xs h)
numbers-total (often c (place p) ∷ xs) h = ap (λ v. v +ℤ total xs []) (*ℤ-zero c) ∙ (+ℤ_idl (total xs []) ∙ numbers-total xs h)
numbers-total (often c (pair k m n) ∷ xs) h = absurd h

unequal-places : (p q : ℕ) (o : Ordering) → nat_cmp p q ≡ o → o ≢ Equal → p ≢ q
unequal-places p q o h n e = n (sym h ∙ (ap (nat_cmp p) (sym e) ∙ tied_itself nat_cmp_total p))

-- a place's coefficient more where it is the place that is 1
unit-counts : (p q : ℕ) (o : Ordering) → nat_cmp p q ≡ o → (c n k : ℤ) → (c *ℤ value_at (unit p) q) +ℤ (n +ℤ k) ≡ n +ℤ where_equal o c k
unit-counts p q Less h c n k =
    let z = unit-other p q (unequal-places p q Less h (λ e. cc)) in
    let e : c *ℤ value_at (unit p) q ≡ pos 0 = ap (λ v. c *ℤ v) z ∙ *ℤ-zero c in
    ap (λ v. v +ℤ (n +ℤ k)) e ∙ +ℤ_idl (n +ℤ k)
unit-counts p q Greater h c n k =
    let z = unit-other p q (unequal-places p q Greater h (λ e. cc)) in
    let e : c *ℤ value_at (unit p) q ≡ pos 0 = ap (λ v. c *ℤ v) z ∙ *ℤ-zero c in
    ap (λ v. v +ℤ (n +ℤ k)) e ∙ +ℤ_idl (n +ℤ k)
unit-counts p q Equal h c n k =
    let z = ap (value_at (unit p)) (sym (equal-numbers p q h)) ∙ unit-same p in
    let e : c *ℤ value_at (unit p) q ≡ c = ap (λ v. c *ℤ v) z ∙ times-one c in
    ap (λ v. v +ℤ (n +ℤ k)) e ∙ moved c n k
  where
    moved : (c n k : ℤ) → c +ℤ (n +ℤ k) ≡ n +ℤ (c +ℤ k)
    moved c n k = omega (arith, ints)

-- where one place is 1 and each other one 0, the numbers and its coefficient are left
unit-total : (p : ℕ) (xs : List Summand) → IsOfPlaces xs → total xs (unit p) ≡ numbers_sum xs +ℤ coefficients_sum (place p) xs
unit-total p [] h = refl
unit-total p (alone c ∷ xs) h = ap (λ v. c +ℤ v) (unit-total p xs h) ∙ sym (add-assoc c (numbers_sum xs) (coefficients_sum (place p) xs))
unit-total p (often c (place q) ∷ xs) h =
    ap (λ v. (c *ℤ value_at (unit p) q) +ℤ v) (unit-total p xs h) ∙ unit-counts p q (nat_cmp p q) refl c (numbers_sum xs) (coefficients_sum (place p) xs)
unit-total p (often c (pair k m n) ∷ xs) h = absurd h

no-pairs : (k : Kind) (m n : Form) (xs : List Summand) → IsOfPlaces xs → coefficients_sum (pair k m n) xs ≡ pos 0
no-pairs k m n [] h = refl
no-pairs k m n (alone c ∷ xs) h = no-pairs k m n xs h
no-pairs k m n (often c (place q) ∷ xs) h = no-pairs k m n xs h
no-pairs k m n (often c (pair l i j) ∷ xs) h = absurd h

pub nothing-left : (xs : List Summand) (d : ℤ) → IsOfPlaces xs → ((s : State) → total xs s ≡ d) → normal_of xs ≡ constant d
nothing-left xs d h t = same_normal (normal_of xs) (constant d) (ordered_is xs) tt (constant_is xs ∙ numbers) (λ x. coefficient_is x xs ∙ none x)
  where
    numbers : numbers_sum xs ≡ d
    numbers = sym (numbers-total xs h) ∙ t []

    rest : (a b e : ℤ) → a ≡ e → a +ℤ b ≡ e → b ≡ pos 0
    rest a b e f g = omega (arith, ints)

    none : (x : Factor) → coefficients_sum x xs ≡ pos 0
    none (place p) = rest (numbers_sum xs) (coefficients_sum (place p) xs) d numbers (sym (unit-total p xs h) ∙ t (unit p))
    none (pair k m n) = no-pairs k m n xs h
