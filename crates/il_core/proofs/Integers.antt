-- Products and Euclidean division of whole numbers.
use Rattle.std.proofs.Common.{◌≡◌, ◌≢◌, ℕ, ◌/◌, ◌<◌, ◌≤◌, ℤ, pos, negsuc, ◌+ℤ◌, ◌*ℤ◌, ◌≤ℤ◌, ◌<ℤ◌, unsigned_abs, ◌⊎◌, inl, inr, arith}
use Rattle.std.proofs.Math.Nat.{mul-le-mul_left, div-mul-le_self}
use Rattle.std.proofs.lemmas.Nat.{le-div}
use Rattle.std.proofs.lemmas.Int.{ints, clamps}
use Rattle.std.specs.Int.{int_div_euclid, int_rem_euclid, int_min, int_max}

-- dividend, divisor times quotient, and remainder
pub euclid : (a b : ℤ) → b ≢ pos 0 → a ≡ (b *ℤ int_div_euclid a b) +ℤ int_rem_euclid a b
euclid (pos a) (pos b) h = grind (arith, ints)
euclid (pos a) (negsuc b) h = grind (arith, ints)
euclid (negsuc a) (pos b) h = grind (arith, ints)
euclid (negsuc a) (negsuc b) h = grind (arith, ints)

-- a remainder is at least 0
pub remainder-low : (a b : ℤ) → b ≢ pos 0 → pos 0 ≤ℤ int_rem_euclid a b
remainder-low (pos a) b h = grind (arith, ints)
remainder-low (negsuc a) b h = grind (arith, ints)

-- a remainder is below the absolute value of the divisor
pub remainder-high : (a b : ℤ) → b ≢ pos 0 → int_rem_euclid a b <ℤ pos (unsigned_abs b)
remainder-high (pos a) (pos b) h = grind (arith, ints)
remainder-high (pos a) (negsuc b) h = grind (arith, ints)
remainder-high (negsuc a) (pos b) h = grind (arith, ints)
remainder-high (negsuc a) (negsuc b) h = grind (arith, ints)

-- a quotient is no further from 0 than its dividend
pub quotient-abs : (a b : ℤ) → b ≢ pos 0 → unsigned_abs (int_div_euclid a b) ≤ unsigned_abs a
quotient-abs (pos a) (pos b) h = grind (arith, ints)
quotient-abs (pos a) (negsuc b) h = grind (arith, ints)
quotient-abs (negsuc a) (pos b) h = grind (arith, ints)
quotient-abs (negsuc a) (negsuc b) h = grind (arith, ints)

-- the quotient of two numbers that are at least 0 is at least 0
pub quotient-natural : (a b : ℤ) → pos 0 ≤ℤ a → pos 0 ≤ℤ b → pos 0 ≤ℤ int_div_euclid a b
quotient-natural (pos a) (pos b) h k = grind (arith, ints)
quotient-natural (pos a) (negsuc b) h k = absurd (omega (arith, ints))
quotient-natural (negsuc a) b h k = absurd (omega (arith, ints))

-- a greater dividend has no lesser quotient
pub div-monotone : (a b c : ℕ) → 0 < c → a ≤ b → a / c ≤ b / c
div-monotone a b c h k = le-div (a / c) b c h (omega (arith, div-mul-le_self a c))

-- by a number above 0 a greater dividend has no lesser quotient
pub quotient-monotone : (a b c : ℤ) → pos 0 <ℤ c → a ≤ℤ b → int_div_euclid a c ≤ℤ int_div_euclid b c
quotient-monotone a b (negsuc c) h k = absurd (omega (arith, ints))
quotient-monotone (pos a) (pos b) (pos c) h k = omega (arith, ints, div-monotone a b c (omega (arith, ints)) (omega (arith, ints)))
quotient-monotone (pos a) (negsuc b) (pos c) h k = absurd (omega (arith, ints))
quotient-monotone (negsuc a) (pos b) (pos c) h k = grind (arith, ints)
quotient-monotone (negsuc a) (negsuc b) (pos c) h k = omega (arith, ints, div-monotone b a c (omega (arith, ints)) (omega (arith, ints)))

-- a greater factor beside a factor that is at least 0 has no lesser product
pub product-monotone : (a b : ℤ) (n : ℕ) → a ≤ℤ b → (a *ℤ pos n) ≤ℤ (b *ℤ pos n)
product-monotone (pos a) (pos b) n h = let k : a ≤ b = omega (arith, ints) in omega (arith, ints, mul-le-mul_left n k)
product-monotone (pos a) (negsuc b) n h = absurd (omega (arith, ints))
product-monotone (negsuc a) (pos b) n h = grind (arith, ints)
product-monotone (negsuc a) (negsuc b) n h = let k : b ≤ a = omega (arith, ints) in omega (arith, ints, mul-le-mul_left n k)

-- a greater factor beside a factor below 0 has no greater product
pub product-antitone : (a b : ℤ) (n : ℕ) → a ≤ℤ b → (b *ℤ negsuc n) ≤ℤ (a *ℤ negsuc n)
product-antitone (pos a) (pos b) n h = let k : a ≤ b = omega (arith, ints) in omega (arith, ints, mul-le-mul_left n k)
product-antitone (pos a) (negsuc b) n h = absurd (omega (arith, ints))
product-antitone (negsuc a) (pos b) n h = grind (arith, ints)
product-antitone (negsuc a) (negsuc b) n h = let k : b ≤ a = omega (arith, ints) in omega (arith, ints, mul-le-mul_left n k)

pub product-swap : (a b : ℤ) → a *ℤ b ≡ b *ℤ a
product-swap (pos a) (pos b) = grind (arith, ints)
product-swap (pos a) (negsuc b) = grind (arith, ints)
product-swap (negsuc a) (pos b) = grind (arith, ints)
product-swap (negsuc a) (negsuc b) = grind (arith, ints)

-- x lies between a and b, whichever is the greater
abbrev pub LiesBetween : ℤ → ℤ → ℤ → Type 0
LiesBetween a b x = ((a ≤ℤ x) × (x ≤ℤ b)) ⊎ ((b ≤ℤ x) × (x ≤ℤ a))

-- a product lies between those of the ends of one factor's range
pub product-between : (l h a b : ℤ) → l ≤ℤ a → a ≤ℤ h → LiesBetween (l *ℤ b) (h *ℤ b) (a *ℤ b)
product-between l h a (pos n) p q = inl (product-monotone l a n p, product-monotone a h n q)
product-between l h a (negsuc n) p q = inr (product-antitone a h n q, product-antitone l a n p)

pub product-between_right : (m n a b : ℤ) → m ≤ℤ b → b ≤ℤ n → LiesBetween (a *ℤ m) (a *ℤ n) (a *ℤ b)
product-between_right m n a b p q = rw (product-swap a m, product-swap a n, product-swap a b) (product-between m n b a p q)

-- between two numbers that each lie between two of four, a number is no less than the least of the four
pub least-of_four : (a b c d u v x : ℤ) → LiesBetween a b u → LiesBetween c d v → LiesBetween u v x
    → int_min (int_min a b) (int_min c d) ≤ℤ x
least-of_four a b c d u v x p q r = omega (arith, ints, clamps)

pub greatest-of_four : (a b c d u v x : ℤ) → LiesBetween a b u → LiesBetween c d v → LiesBetween u v x
    → x ≤ℤ int_max (int_max a b) (int_max c d)
greatest-of_four a b c d u v x p q r = omega (arith, ints, clamps)
