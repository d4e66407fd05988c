-- A bound on a multiple is a bound on the number: by a factor above 0 it is the quotient, rounded down. And a value in range wraps to itself.
use Rattle.std.proofs.Common.{◌≡◌, ap, zero, suc, ℤ, pos, negsuc, neg_ℤ, ◌+ℤ◌, ◌-ℤ◌, ◌*ℤ◌, ◌≤ℤ◌, ◌<ℤ◌, ◌⊎◌, inl, inr, arith}
use Rattle.std.proofs.Math.Nat.{mod-eq_of_lt}
use Rattle.std.proofs.Math.IntN.{suc_ℤ, suc_ℤ-*ℤ, *ℤ-negsuc}
use Rattle.std.proofs.lemmas.Int.{ints}
use Rattle.std.specs.Int.{int_div_euclid, int_rem_euclid}
use Rattle.il_core.specs.Machine.{wrapped}
use Rattle.il_core.specs.declared.line.Place.{Place}
use Rattle.il_core.proofs.Integers.{euclid, remainder-low, remainder-high, product-monotone, product-swap}

below-or-above : (x q : ℤ) → (x ≤ℤ q) ⊎ (suc_ℤ q ≤ℤ x)
below-or-above x q = grind (arith, ints)

-- x times a factor is at most b exactly where x is at most the quotient of b
pub most-multiple : (c x b : ℤ) → pos 0 <ℤ c → (c *ℤ x) ≤ℤ b → x ≤ℤ int_div_euclid b c
most-multiple (negsuc n) x b h k = absurd (omega (arith, ints))
most-multiple (pos zero) x b h k = absurd (omega (arith, ints))
most-multiple (pos (suc n)) x b h k = elim (below-or-above x (int_div_euclid b (pos (suc n)))) [
  | inl l ↦ l
  | inr l ↦
      let q = int_div_euclid b (pos (suc n)) in
      let e = euclid b (pos (suc n)) (λ z. absurd (omega (arith, ints))) in
      let r = remainder-high b (pos (suc n)) (λ z. absurd (omega (arith, ints))) in
      let m = product-monotone (suc_ℤ q) x (suc n) l in
      let s = suc_ℤ-*ℤ q (pos (suc n)) in
      let t = product-swap q (pos (suc n)) in
      let u = product-swap x (pos (suc n)) in
      absurd (omega (arith, ints))
]

pub multiple-most : (c x b : ℤ) → pos 0 <ℤ c → x ≤ℤ int_div_euclid b c → (c *ℤ x) ≤ℤ b
multiple-most (negsuc n) x b h k = absurd (omega (arith, ints))
multiple-most (pos zero) x b h k = absurd (omega (arith, ints))
multiple-most (pos (suc n)) x b h k =
    let q = int_div_euclid b (pos (suc n)) in
    let e = euclid b (pos (suc n)) (λ z. absurd (omega (arith, ints))) in
    let r = remainder-low b (pos (suc n)) (λ z. absurd (omega (arith, ints))) in
    let m = product-monotone x q (suc n) k in
    let t = product-swap q (pos (suc n)) in
    let u = product-swap x (pos (suc n)) in
    omega (arith, ints)

times-negated : (c x : ℤ) → c *ℤ neg_ℤ x ≡ neg_ℤ (c *ℤ x)
times-negated c (pos zero) = grind (arith, ints)
times-negated c (pos (suc n)) = *ℤ-negsuc c n
times-negated c (negsuc n) = let e = *ℤ-negsuc c n in omega (arith, ints)

-- x times a factor is at least b exactly where the negated x is at most the quotient of the negated b
pub least-multiple : (c x b : ℤ) → pos 0 <ℤ c → b ≤ℤ (c *ℤ x) → neg_ℤ x ≤ℤ int_div_euclid (neg_ℤ b) c
least-multiple c x b h k = most-multiple c (neg_ℤ x) (neg_ℤ b) h (let e = times-negated c x in omega (arith, ints))

pub multiple-least : (c x b : ℤ) → pos 0 <ℤ c → neg_ℤ x ≤ℤ int_div_euclid (neg_ℤ b) c → b ≤ℤ (c *ℤ x)
multiple-least c x b h k = let m = multiple-most c (neg_ℤ x) (neg_ℤ b) h k in let e = times-negated c x in omega (arith, ints)

-- a natural number below a divisor is its own remainder
pub own-remainder : (a b : ℤ) → pos 0 ≤ℤ a → a <ℤ b → int_rem_euclid a b ≡ a
own-remainder (pos a) (pos b) h k = ap pos (mod-eq_of_lt (omega (arith, ints)))
own-remainder (pos a) (negsuc b) h k = absurd (omega (arith, ints))
own-remainder (negsuc a) b h k = absurd (omega (arith, ints))

-- a value of the range wraps to itself
pub wrapped-same : (p : Place) (v : ℤ) → p.least ≤ℤ v → v ≤ℤ p.greatest → wrapped p v ≡ v
wrapped-same p v l g =
    let e = own-remainder (v -ℤ p.least) ((p.greatest -ℤ p.least) +ℤ pos 1) (omega (arith, ints)) (omega (arith, ints)) in
    omega (arith, ints)
