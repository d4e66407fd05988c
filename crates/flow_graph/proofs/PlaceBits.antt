-- The bits of a mask are those of the places that an expression reads, or of the variables that are handed back.
use Rattle.std.proofs.Common.{◌≡◌, ◌≢◌, ◌⊎◌, inl, inr, refl, sym, ◌∙◌, ℕ, zero, suc, ◌+◌, ◌^◌, ◌<◌, max, Bool, true, false, cond, List, [], ◌∷◌, length, arith, Option, Some, None, slice_get}
use Rattle.std.specs.Prelude.{nat_lt}
use Rattle.std.specs.Int.{bit_at}
use Rattle.std.specs.Int.RustNames.{bit_or}
use Rattle.std.proofs.lemmas.Bool.Decides.{nat_tests, eqb_tells}
use Rattle.std.proofs.lemmas.Nat.Bits.{bit_at-zero, bit_at-lt, bit_at_or, bit_at-pow_same, bit_at-pow_other}
use Rattle.std.proofs.lemmas.Option.{slice_get_within}
use Rattle.il_core.specs.Expression.{Expression, number, variable, flag, truth, minus, opposite, two}
use Rattle.il_core.specs.Kind.{IsWhole, IsCondition, HasFlag}
use Rattle.il_core.specs.declared.line.Place.{Place}
use Rattle.il_core.specs.declared.operator.BinOp.TheVariants.{Add, Sub, Mul, Div, Mod, Compare, And, Or}
use Rattle.flow_graph.specs.Reading.{Reads, place_mask, mask_of}
use Rattle.flow_graph.specs.Graph.{is_returned, is_some_returned, IsReturned, returned_from}

-- the mask 0 has no bit
pub no_bits : (p : ℕ) → bit_at 0 p ≡ 1 → ⊥
no_bits p h = let z = bit_at-zero p in omega (arith, z, h)

-- a bit of two masks is one of either
pub bits_of_both : (a b p : ℕ) → bit_at (bit_or a b) p ≡ 1 → (bit_at a p ≡ 1) ⊎ (bit_at b p ≡ 1)
bits_of_both a b p h = by_bits (bit_at a p) (bit_at b p) (bit_at-lt a p) (sym (bit_at_or a b p) ∙ h)
  where
    by_bits : (x y : ℕ) → x < 2 → max x y ≡ 1 → (x ≡ 1) ⊎ (y ≡ 1)
    by_bits zero y l e = inr (omega arith)
    by_bits (suc zero) y l e = inl refl
    by_bits (suc (suc x)) y l e = absurd (omega arith)

pub bits_from_left : (a b p : ℕ) → bit_at a p ≡ 1 → bit_at (bit_or a b) p ≡ 1
bits_from_left a b p h = let l = bit_at-lt b p in let e = bit_at_or a b p in omega (arith, h, l, e)

pub bits_from_right : (a b p : ℕ) → bit_at b p ≡ 1 → bit_at (bit_or a b) p ≡ 1
bits_from_right a b p h = let l = bit_at-lt a p in let e = bit_at_or a b p in omega (arith, h, l, e)

-- a place below 64 has its bit in its mask
pub place_bit : (p : ℕ) → p < 64 → bit_at (place_mask p) p ≡ 1
place_bit p l = by_test (nat_lt p 64) refl
  where
    by_test : (t : Bool) → nat_lt p 64 ≡ t → bit_at (cond t (2 ^ p) 0) p ≡ 1
    by_test true e = bit_at-pow_same p
    by_test false e = absurd (grind (arith, nat_tests))

-- and no other place has one
pub only_place_bit : (p q : ℕ) → bit_at (place_mask p) q ≡ 1 → p ≡ q
only_place_bit p q h = by_test (nat_lt p 64) h
  where
    by_place : (p ≡ q) ⊎ (q ≢ p) → bit_at (2 ^ p) q ≡ 1 → p ≡ q
    by_place (inl e) k = e
    by_place (inr n) k = let z = bit_at-pow_other p q n in absurd (omega (arith, z, k))

    by_test : (t : Bool) → bit_at (cond t (2 ^ p) 0) q ≡ 1 → p ≡ q
    by_test true k = by_place (elim (eqb_tells p q) [ inl same ↦ inl same.1 | inr other ↦ inr (λ e. other.1 (sym e)) ]) k
    by_test false k = absurd (no_bits q k)

-- the bits of a mask are those of places that the expression reads
pub mask-sound : (e : Expression) (p : ℕ) → bit_at (mask_of e) p ≡ 1 → Reads e p
mask-sound (number n) p h = no_bits p h
mask-sound (variable q) p h = only_place_bit q p h
mask-sound (flag q) p h = only_place_bit q p h
mask-sound (truth b) p h = no_bits p h
mask-sound (minus e) p h = mask-sound e p h
mask-sound (opposite e) p h = mask-sound e p h
mask-sound (two o a b) p h = elim (bits_of_both (mask_of a) (mask_of b) p h) [ inl x ↦ inl (mask-sound a p x) | inr y ↦ inr (mask-sound b p y) ]

-- each place below 64 that the expression reads has its bit
pub mask-whole : (e : Expression) (p : ℕ) → p < 64 → Reads e p → bit_at (mask_of e) p ≡ 1
mask-whole (number n) p l h = absurd h
mask-whole (variable q) p l h = rw h (place_bit p l)
mask-whole (flag q) p l h = rw h (place_bit p l)
mask-whole (truth b) p l h = absurd h
mask-whole (minus e) p l h = mask-whole e p l h
mask-whole (opposite e) p l h = mask-whole e p l h
mask-whole (two o a b) p l (inl h) = bits_from_left (mask_of a) (mask_of b) p (mask-whole a p l h)
mask-whole (two o a b) p l (inr h) = bits_from_right (mask_of a) (mask_of b) p (mask-whole b p l h)

-- a place with a kind is there
flag_within : (places : List Place) (q : ℕ) (o : Option Place) (b : Bool) → slice_get places q ≡ o → HasFlag o b → q < length places
flag_within places q None b e h = absurd h
flag_within places q (Some place) b e h = slice_get_within places q place e

-- a well typed expression reads places that are there
pub whole_within : (places : List Place) (e : Expression) (p : ℕ) → IsWhole places e → Reads e p → p < length places
whole_within places (number n) p t h = absurd h
whole_within places (variable q) p t h = rw (← h) (flag_within places q (slice_get places q) false refl t)
whole_within places (flag q) p t h = absurd t
whole_within places (truth b) p t h = absurd h
whole_within places (minus e) p t h = whole_within places e p t h
whole_within places (opposite e) p t h = absurd t
whole_within places (two Add a b) p t h = elim h [ inl x ↦ whole_within places a p t.0 x | inr y ↦ whole_within places b p t.1 y ]
whole_within places (two Sub a b) p t h = elim h [ inl x ↦ whole_within places a p t.0 x | inr y ↦ whole_within places b p t.1 y ]
whole_within places (two Mul a b) p t h = elim h [ inl x ↦ whole_within places a p t.0 x | inr y ↦ whole_within places b p t.1 y ]
whole_within places (two Div a b) p t h = elim h [ inl x ↦ whole_within places a p t.0 x | inr y ↦ whole_within places b p t.1 y ]
whole_within places (two Mod a b) p t h = elim h [ inl x ↦ whole_within places a p t.0 x | inr y ↦ whole_within places b p t.1 y ]
whole_within places (two (Compare r) a b) p t h = absurd t
whole_within places (two And a b) p t h = absurd t
whole_within places (two Or a b) p t h = absurd t

pub condition_within : (places : List Place) (e : Expression) (p : ℕ) → IsCondition places e → Reads e p → p < length places
condition_within places (number n) p t h = absurd h
condition_within places (variable q) p t h = absurd t
condition_within places (flag q) p t h = rw (← h) (flag_within places q (slice_get places q) true refl t)
condition_within places (truth b) p t h = absurd h
condition_within places (minus e) p t h = absurd t
condition_within places (opposite e) p t h = condition_within places e p t h
condition_within places (two Add a b) p t h = absurd t
condition_within places (two Sub a b) p t h = absurd t
condition_within places (two Mul a b) p t h = absurd t
condition_within places (two Div a b) p t h = absurd t
condition_within places (two Mod a b) p t h = absurd t
condition_within places (two (Compare r) a b) p t h = elim h [ inl x ↦ whole_within places a p t.0 x | inr y ↦ whole_within places b p t.1 y ]
condition_within places (two And a b) p t h = elim h [ inl x ↦ condition_within places a p t.0 x | inr y ↦ condition_within places b p t.1 y ]
condition_within places (two Or a b) p t h = elim h [ inl x ↦ condition_within places a p t.0 x | inr y ↦ condition_within places b p t.1 y ]

-- a bit of the mask of the variables that are handed back is one of them
pub returned-sound : (k : ℕ) (places : List Place) (p : ℕ) → bit_at (returned_from k places) p ≡ 1 → (i : ℕ) × (k + i ≡ p) × IsReturned places i
returned-sound k [] p h = absurd (no_bits p h)
returned-sound k (place ∷ rest) p h = elim (bits_of_both (cond (is_returned place) (place_mask k) 0) (returned_from (suc k) rest) p h) [
  | inl x ↦ first (is_returned place) refl x
  | inr y ↦ let t = returned-sound (suc k) rest p y in (suc t.0, omega (arith, t.1), t.2)
]
  where
    first : (t : Bool) → is_returned place ≡ t → bit_at (cond t (place_mask k) 0) p ≡ 1 → (i : ℕ) × (k + i ≡ p) × IsReturned (place ∷ rest) i
    first true e x = let same = only_place_bit k p x in (0, omega arith, e)
    first false e x = absurd (no_bits p x)

-- each of them has its bit
pub returned-whole : (k : ℕ) (places : List Place) (i : ℕ) → k + i < 64 → IsReturned places i → bit_at (returned_from k places) (k + i) ≡ 1
returned-whole k [] i l h = absurd (cc)
returned-whole k (place ∷ rest) zero l h =
    bits_from_left (cond (is_returned place) (place_mask k) 0) (returned_from (suc k) rest) (k + 0)
    (rw h (let e : k + 0 ≡ k = omega arith in rw e (place_bit k (omega arith))))
returned-whole k (place ∷ rest) (suc i) l h =
    let e : k + suc i ≡ suc k + i = omega arith in
    bits_from_right (cond (is_returned place) (place_mask k) 0) (returned_from (suc k) rest) (k + suc i)
    (rw e (returned-whole (suc k) rest i (omega arith) h))

-- one of them is a place
pub returned_within : (places : List Place) (p : ℕ) → IsReturned places p → p < length places
returned_within places p h = by_place (slice_get places p) refl h
  where
    by_place : (o : Option Place) → slice_get places p ≡ o → is_some_returned o ≡ true → p < length places
    by_place None e k = absurd (cc)
    by_place (Some place) e k = slice_get_within places p place e
