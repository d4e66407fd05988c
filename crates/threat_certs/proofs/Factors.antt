-- The greatest common divisor of the coefficients is the factor of a reduced literal, and the parts divided by it are the reduced parts.
use Rattle.std.proofs.Common.{◌≡◌, ◌≢◌, ◌∙◌, refl, sym, ap, subst, ℕ, zero, suc, ◌+◌, ◌*◌, ◌/◌, ◌<◌, ◌≤◌, ℤ, pos, negsuc, ◌+ℤ◌, ◌*ℤ◌, ◌≤ℤ◌, ◌<ℤ◌, unsigned_abs, Some, List, length, drop, slice_get, arith}
use Prim.Native.Nat.{◌∣◌}
use Rattle.std.proofs.Math.Nat.{dvd-mul_right, mul-div_cancel', pos_of_dvd_of_pos}
use Rattle.std.proofs.Math.IntN.{*ℤ-zero}
use Rattle.std.proofs.lemmas.Int.{ints, unsigned_abs-mul}
use Rattle.std.proofs.lemmas.Nat.Gcd.{dvd_refl, dvd-zero, dvd_trans, le_of_dvd}
use Rattle.std.proofs.lemmas.List.{drop_all}
use Rattle.std.specs.Int.{int_div_euclid, IsGcd}
use Rattle.il_core.proofs.Integers.{product-monotone, product-swap, quotient-abs}
use Rattle.il_core.proofs.Quotients.{most-multiple, multiple-most}
use Rattle.sym_simplify.specs.declared.normal.Normal.{Normal, out-Normal}
use Rattle.sym_simplify.specs.declared.normal.Part.{Part}
use Rattle.sym_simplify.specs.Form.{Form, constant, part, Factor}
use Rattle.sym_simplify.specs.Held.{factor_of, form_of, parts_before}
use Rattle.sym_simplify.specs.Normal.{IsBelow, IsOrdered, constant_of}
use Rattle.sym_simplify.specs.Merge.{scale_parts}
use Rattle.sym_simplify.specs.Literal.{BeginsAboveZero}
use Rattle.sym_simplify.specs.Easy.{AreCoefficientsWithin}
use Rattle.sym_simplify.proofs.HeldParts.{held}
use Rattle.sym_simplify.proofs.Hefts.{le-trans}
use Rattle.sym_simplify.proofs.OpenParts.{drop_first}
use Rattle.threat_certs.specs.Adding.{divided}
use Rattle.cert_rules.specs.Quantity.{IsReduced}

-- a number divides each coefficient
abbrev pub DividesAll : ℕ → Form → Type 0
DividesAll d (constant c) = Unit {0}
DividesAll d (part c a n) = (d ∣ unsigned_abs c) × DividesAll d n

divides-multiple : (d : ℕ) (m : Form) → DividesAll d (scale_parts (pos d) m)
divides-multiple d (constant c) = tt
divides-multiple d (part c a m) = (subst (λ x. d ∣ x) (sym (unsigned_abs-mul (pos d) c)) (dvd-mul_right d (unsigned_abs c)), divides-multiple d m)

divides-of_multiple : (d : ℕ) (m n : Form) → scale_parts (pos d) m ≡ n → DividesAll d n
divides-of_multiple d m n e = subst (λ x. DividesAll d x) e (divides-multiple d m)

-- the divisors of a number and of the coefficients of the rest are the common divisors
pub record Factoring (g : ℕ) (rest n : Form) : Type 0 where
  pub common : (d : ℕ) → d ∣ g → DividesAll d rest → DividesAll d n
  pub number : (d : ℕ) → DividesAll d n → d ∣ g
  pub others : (d : ℕ) → DividesAll d n → DividesAll d rest

pub factoring_start : (n : Form) → Factoring 0 n n
factoring_start n = record { common = λ d h k. k; number = λ d h. dvd-zero d; others = λ d h. h }

pub factoring_step : (g next : ℕ) (c : ℤ) (a : Factor) (rest n : Form) → IsGcd g (unsigned_abs c) next → Factoring g (part c a rest) n → Factoring next rest n
factoring_step g next c a rest n h f = record {
  common = λ d k w. f.common d (dvd_trans d k h.0) (dvd_trans d k h.1, w);
  number = λ d w. h.2 d (f.number d w) (f.others d w).0;
  others = λ d w. (f.others d w).1;
}

times-number : (g k : ℕ) (c : ℤ) → unsigned_abs c ≡ g * k → (z : ℤ) × (pos g *ℤ z ≡ c)
times-number g k (pos m) e = (pos k, grind (arith, ints))
times-number g zero (negsuc m) e = absurd (grind (arith, ints))
times-number zero (suc k) (negsuc m) e = absurd (grind (arith, ints))
times-number (suc g) (suc k) (negsuc m) e = (negsuc k, grind (arith, ints))

-- a number that is divided without a remainder is the quotient times the divisor
exact : (g : ℕ) (c z : ℤ) → pos 0 <ℤ pos g → pos g *ℤ z ≡ c → pos g *ℤ int_div_euclid c (pos g) ≡ c
exact g c z h e =
    let q = int_div_euclid c (pos g) in
    let below : (pos g *ℤ q) ≤ℤ c = multiple-most (pos g) q c h (omega (arith, ints)) in
    let l : z ≤ℤ q = most-multiple (pos g) z c h (omega (arith, ints)) in
    let m = product-monotone z q g l in
    let s = product-swap z (pos g) in
    let t = product-swap q (pos g) in
    omega (arith, ints)

divided-number : (g : ℕ) (c : ℤ) → 0 < g → g ∣ unsigned_abs c → pos g *ℤ int_div_euclid c (pos g) ≡ c
divided-number g c h d =
    let z = times-number g (unsigned_abs c / g) c (sym (mul-div_cancel' g d)) in
    exact g c z.0 (omega (arith, ints)) z.1

divided-multiple : (g : ℕ) (n : Form) → 0 < g → constant_of n ≡ pos 0 → DividesAll g n → scale_parts (pos g) (divided (pos g) (pos 0) n) ≡ n
divided-multiple g (constant c) h e d = ap constant (*ℤ-zero (pos g) ∙ sym e)
divided-multiple g (part c a n) h e d =
    ap (λ x. part x a (scale_parts (pos g) (divided (pos g) (pos 0) n))) (divided-number g c h d.0)
    ∙ ap (part c a) (divided-multiple g n h e d.1)

-- what divides the first coefficient of a literal is above 0, and no greater than the coefficient
zero-divides : (g : ℕ) (c : ℤ) → pos 0 <ℤ c → g ∣ unsigned_abs c → 0 < g
zero-divides g c h d = pos_of_dvd_of_pos d (grind (arith, ints))

factor-above : (g : ℕ) (n : Form) → BeginsAboveZero n → DividesAll g n → 0 < g
factor-above g (constant c) h d = absurd h
factor-above g (part c a n) h d = zero-divides g c h d.0

abs-above : (c : ℤ) → pos 0 <ℤ c → 0 < unsigned_abs c
abs-above c h = grind (arith, ints)

factor-small : (k g : ℕ) (n : Form) → BeginsAboveZero n → AreCoefficientsWithin k n → DividesAll g n → g ≤ k
factor-small k g (constant c) h w d = absurd h
factor-small k g (part c a n) h w d = let l = le_of_dvd (abs-above c h) d.0 in le-trans g (unsigned_abs c) k l w.0

module _ (g : ℕ) (c : ℤ) (n : Form) (f : Factoring g (constant c) n) where
  all-divided : DividesAll g n
  all-divided = f.common g (dvd_refl g) tt

  pub factor_reduced : constant_of n ≡ pos 0 → BeginsAboveZero n → IsReduced n g (divided (pos g) (pos 0) n)
  factor_reduced e h =
      let above = factor-above g n h all-divided in
      record {
        multiple = divided-multiple g n above e all-divided;
        greatest = λ d other t. le_of_dvd above (f.number d (divides-of_multiple d other n t));
      }

  pub factor_small : (k : ℕ) → BeginsAboveZero n → AreCoefficientsWithin k n → g ≤ k
  factor_small k h w = factor-small k g n h w all-divided

-- the same over parts that are walked through
pub parts_start : (n : Normal) (ps : List Part) → ps ≡ (out-Normal n).parts → Factoring 0 (parts_before (drop 0 ps) (constant (out-Normal n).constant)) (form_of n)
parts_start n ps e = subst (λ m. Factoring 0 m (form_of n)) (held n ∙ ap (λ xs. parts_before xs (constant (out-Normal n).constant)) (sym e)) (factoring_start (form_of n))

pub parts_step : (g next : ℕ) (ps : List Part) (i : ℕ) (p : Part) (c : ℤ) (n : Form) → slice_get ps i ≡ Some p → IsGcd g (unsigned_abs p.coefficient) next
    → Factoring g (parts_before (drop i ps) (constant c)) n → Factoring next (parts_before (drop (i + 1) ps) (constant c)) n
parts_step g next ps i p c n e h f =
    factoring_step g next p.coefficient (factor_of p.atom) (parts_before (drop (i + 1) ps) (constant c)) n h
    (subst (λ xs. Factoring g (parts_before xs (constant c)) n) (drop_first ps i p e) f)

pub parts_end : (g : ℕ) (ps : List Part) (i : ℕ) (c : ℤ) (n : Form) → length ps ≤ i → Factoring g (parts_before (drop i ps) (constant c)) n → Factoring g (constant c) n
parts_end g ps i c n l f = subst (λ xs. Factoring g (parts_before xs (constant c)) n) (drop_all i ps l) f
