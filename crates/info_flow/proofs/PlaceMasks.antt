-- Masks of places: a mask without one place, and what the masks of the lines of a row have.
use Rattle.std.proofs.Common.{◌≡◌, ◌≢◌, inl, inr, ◌∙◌, ℕ, ◌+◌, ◌*◌, ◌%◌, ◌^◌, ◌<◌, List, [], length, get_or, take, arith, bit_and, bit_or, w64, one-mul, mod-eq_of_lt}
use Rattle.std.specs.Prelude.{◌↔◌}
use Rattle.std.specs.Int.{bit_not}
use Rattle.std.proofs.lemmas.Bool.{cases_lt}
use Rattle.std.proofs.lemmas.Bool.Decides.{eqb_tells}
use Rattle.std.proofs.lemmas.Nat.Bits.{bit_at-lt, bit_at_and, bit_at_above, bit_at_clear_same, bit_at_clear_other, bit_at-pow_same, bit_at-pow_other}
use Rattle.std.proofs.lemmas.Nat.{pow_below}
use Rattle.il_core.specs.LineGraph.{IsIn}
use Rattle.flow_graph.proofs.PlaceBits.{no_bits, bits_of_both, bits_from_left, bits_from_right}
use Rattle.flow_graph.proofs.Members.{IsIn-more_cases, IsIn-more_old, IsIn-more_new}
use Rattle.info_flow.specs.Growth.{HasPlace, Needs}

-- a bit of both numbers is one of the first
and_bit : (a b p : ℕ) → HasPlace (bit_and a b) p → HasPlace a p
and_bit a b p h = let e = bit_at_and a b p in let l = bit_at-lt a p in let m = bit_at-lt b p in omega (arith, e, l, m, h)

-- a mask from which one place is taken
pub cleared : (n k : ℕ) → n < 2 ^ 64 → k < 64 → (p : ℕ) → HasPlace (bit_and n (bit_not w64 (1 * 2 ^ k % 2 ^ 64))) p ↔ (HasPlace n p × p ≢ k)
cleared n k l m p = (there, back)
  where
    there : HasPlace (bit_and n (bit_not w64 (1 * 2 ^ k % 2 ^ 64))) p → HasPlace n p × p ≢ k
    there h = (and_bit n (bit_not w64 (1 * 2 ^ k % 2 ^ 64)) p h, λ e. let z = bit_at_clear_same w64 n k m in let g = rw e at h in omega (arith, z, g))

    back : HasPlace n p × p ≢ k → HasPlace (bit_and n (bit_not w64 (1 * 2 ^ k % 2 ^ 64))) p
    back h = elim (cases_lt p 64) [
      | inl low ↦ bit_at_clear_other w64 n k m p low h.1 ∙ h.0
      | inr high ↦ let z = bit_at_above n 64 p l high in absurd (omega (arith, z, h.0))
    ]

-- what lines of a front of a row need
pub record IsNeededIn (row masks : List ℕ) (places : ℕ) : Type 0 where
  pub each : (p : ℕ) → HasPlace places p ↔ ((h : ℕ) × IsIn row h × Needs masks h p)

pub needed_none : (masks : List ℕ) → IsNeededIn [] masks 0
needed_none masks = record { each = λ p. (λ h. absurd (no_bits p h), λ t. absurd t.1) }

pub needed_more : (row masks : List ℕ) (i d places : ℕ) → i < length row → IsNeededIn (take i row) masks places
    → IsNeededIn (take (i + 1) row) masks (bit_or places (get_or masks (get_or row i d) 0))
needed_more row masks i d places l n = record { each = λ p. (there p, back p) }
  where
    there : (p : ℕ) → HasPlace (bit_or places (get_or masks (get_or row i d) 0)) p → (h : ℕ) × IsIn (take (i + 1) row) h × Needs masks h p
    there p h = elim (bits_of_both places (get_or masks (get_or row i d) 0) p h) [
      | inl x ↦ let t = (n.each p).0 x in (t.0, IsIn-more_old row i d t.0 l t.1, t.2)
      | inr y ↦ (get_or row i d, IsIn-more_new row i d l, y)
    ]

    back : (p : ℕ) → ((h : ℕ) × IsIn (take (i + 1) row) h × Needs masks h p) → HasPlace (bit_or places (get_or masks (get_or row i d) 0)) p
    back p t = elim (IsIn-more_cases row i d t.0 l t.1) [
      | inl x ↦ bits_from_left places (get_or masks (get_or row i d) 0) p ((n.each p).1 (t.0, x, t.2))
      | inr e ↦ bits_from_right places (get_or masks (get_or row i d) 0) p (rw (← e) at t.2)
    ]

-- the mask of one place
pub single : (k : ℕ) → k < 64 → (p : ℕ) → HasPlace (1 * 2 ^ k % 2 ^ 64) p ↔ (p ≡ k)
single k l p =
    let e : 1 * 2 ^ k % 2 ^ 64 ≡ 2 ^ k = rw one-mul (mod-eq_of_lt (pow_below k 64 l)) in
    rw e (there, back)
  where
    there : HasPlace (2 ^ k) p → p ≡ k
    there h = elim (eqb_tells p k) [
      | inl same ↦ same.1
      | inr other ↦ let z = bit_at-pow_other k p other.1 in absurd (omega (arith, z, h))
    ]

    back : p ≡ k → HasPlace (2 ^ k) p
    back e = rw e (bit_at-pow_same k)

-- a mask of 64 bits has places below 64 alone
pub place_below : (mask p : ℕ) → mask < 2 ^ 64 → HasPlace mask p → p < 64
place_below mask p l h = elim (cases_lt p 64) [
  | inl low ↦ low
  | inr high ↦ let z = bit_at_above mask 64 p l high in absurd (omega (arith, z, h))
]
