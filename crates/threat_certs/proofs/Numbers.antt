-- How far the numbers of a normal term reach, when it is added to another one, multiplied or divided.
use Rattle.std.proofs.Common.{◌≡◌, ◌≢◌, sym, subst, ℕ, ◌+◌, ◌*◌, ◌≤◌, ℤ, pos, ◌+ℤ◌, ◌*ℤ◌, unsigned_abs, Bool, true, false, if◌then◌else◌, arith}
use Rattle.std.proofs.Math.Nat.{mul-le-mul}
use Rattle.std.proofs.lemmas.Int.{ints, unsigned_abs-mul}
use Rattle.std.specs.Ordering.{int_eq}
use Rattle.std.specs.Int.{int_div_euclid}
use Rattle.std.specs.declared.cmp.Ordering.{Ordering}
use Rattle.std.specs.declared.cmp.Ordering.TheVariants.{Less, Equal, Greater}
use Rattle.il_core.proofs.Integers.{quotient-abs}
use Rattle.sym_simplify.specs.Form.{Form, constant, part, Factor}
use Rattle.sym_simplify.specs.Norm.{before, shift}
use Rattle.sym_simplify.specs.Order.{factor_cmp}
use Rattle.sym_simplify.specs.Merge.{merge_at, merge_part, merge, scale_parts}
use Rattle.sym_simplify.specs.Easy.{AreCoefficientsWithin}
use Rattle.sym_simplify.proofs.Hefts.{le-trans}
use Rattle.threat_certs.specs.Adding.{divided, AreNumbersWithin}

pub within_more : (j k : ℕ) (n : Form) → j ≤ k → AreNumbersWithin j n → AreNumbersWithin k n
within_more j k (constant c) l h = le-trans (unsigned_abs c) j k h l
within_more j k (part c a n) l h = (le-trans (unsigned_abs c) j k h.0 l, within_more j k n l h.1)

sum-within : (j k : ℕ) (c d : ℤ) → unsigned_abs c ≤ j → unsigned_abs d ≤ k → unsigned_abs (c +ℤ d) ≤ j + k
sum-within j k c d h l = omega (arith, ints)

before-within : (k : ℕ) (c : ℤ) (a : Factor) (n : Form) (b : Bool) → unsigned_abs c ≤ k → AreNumbersWithin k n → AreNumbersWithin k (if b then n else part c a n)
before-within k c a n true h l = l
before-within k c a n false h l = (h, l)

shift-within : (j k : ℕ) (c : ℤ) (n : Form) → unsigned_abs c ≤ j → AreNumbersWithin k n → AreNumbersWithin (j + k) (shift c n)
shift-within j k c (constant d) h l = sum-within j k c d h l
shift-within j k c (part d b n) h l = (le-trans (unsigned_abs d) k (j + k) l.0 (omega arith), shift-within j k c n h l.1)

at-within : (o : Ordering) (j k : ℕ) (c : ℤ) (a : Factor) (d : ℤ) (b : Factor) (first both second : Form) → unsigned_abs c ≤ j → unsigned_abs d ≤ k
    → AreNumbersWithin (j + k) first → AreNumbersWithin (j + k) both → AreNumbersWithin (j + k) second → AreNumbersWithin (j + k) (merge_at o c a d b first both second)
at-within Less j k c a d b first both second h l f g i = (le-trans (unsigned_abs c) j (j + k) h (omega arith), f)
at-within Equal j k c a d b first both second h l f g i = before-within (j + k) (c +ℤ d) b both (int_eq (c +ℤ d) (pos 0)) (sum-within j k c d h l) g
at-within Greater j k c a d b first both second h l f g i = (le-trans (unsigned_abs d) k (j + k) l (omega arith), i)

part-within : (j k : ℕ) (c : ℤ) (a : Factor) (more : Form → Form) (n : Form) → unsigned_abs c ≤ j → ((m : Form) → AreNumbersWithin k m → AreNumbersWithin (j + k) (more m))
    → AreNumbersWithin k n → AreNumbersWithin (j + k) (merge_part c a more n)
part-within j k c a more (constant d) h f l = (le-trans (unsigned_abs c) j (j + k) h (omega arith), f (constant d) l)
part-within j k c a more (part d b n) h f l =
    at-within (factor_cmp a b) j k c a d b (more (part d b n)) (more n) (merge_part c a more n) h l.0 (f (part d b n) l) (f n l.1) (part-within j k c a more n h f l.1)

pub merge_within : (j k : ℕ) (m n : Form) → AreNumbersWithin j m → AreNumbersWithin k n → AreNumbersWithin (j + k) (merge m n)
merge_within j k (constant c) n h l = shift-within j k c n h l
merge_within j k (part c a m) n h l = part-within j k c a (merge m) n h.0 (λ i w. merge_within j k m i h.1 w) l

times-within : (t k : ℕ) (f c : ℤ) → unsigned_abs f ≤ t → unsigned_abs c ≤ k → unsigned_abs (f *ℤ c) ≤ t * k
times-within t k f c h l = subst (λ x. x ≤ t * k) (sym (unsigned_abs-mul f c)) (mul-le-mul h l)

pub scale_within : (t k : ℕ) (f : ℤ) (n : Form) → unsigned_abs f ≤ t → AreNumbersWithin k n → AreNumbersWithin (t * k) (scale_parts f n)
scale_within t k f (constant c) h l = times-within t k f c h l
scale_within t k f (part c a n) h l = (times-within t k f c h l.0, scale_within t k f n h l.1)

pub divided_within : (k : ℕ) (g d : ℤ) (n : Form) → g ≢ pos 0 → unsigned_abs d ≤ k → AreCoefficientsWithin k n → AreNumbersWithin k (divided g d n)
divided_within k g d (constant c) h l w = l
divided_within k g d (part c a n) h l w = (le-trans (unsigned_abs (int_div_euclid c g)) (unsigned_abs c) k (quotient-abs c g h) w.0, divided_within k g d n h l w.1)

pub coefficients_more : (j k : ℕ) (n : Form) → j ≤ k → AreCoefficientsWithin j n → AreCoefficientsWithin k n
coefficients_more j k (constant c) l h = tt
coefficients_more j k (part c a n) l h = (le-trans (unsigned_abs c) j k h.0 l, coefficients_more j k n l h.1)
