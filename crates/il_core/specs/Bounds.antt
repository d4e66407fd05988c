-- Static bounds: the least and the greatest value that an expression can have, by its form and the ranges of its places alone.
use Rattle.std.specs.Prelude.{ℕ, ◌^◌, ◌≤◌, max, ℤ, pos, neg_ℤ, ◌+ℤ◌, ◌-ℤ◌, ◌*ℤ◌, Bool, ◌&&◌, Option, Some, None, List, if◌then◌else◌, int_lt, int_le, unsigned_abs, slice_get}
use Rattle.std.specs.Int.{int_div_euclid, int_min, int_max}
use Rattle.std.specs.Ordering.{int_eq}
use Rattle.il_core.specs.Expression.{Expression, number, variable, flag, truth, minus, opposite, two}
use Rattle.il_core.specs.declared.line.Place.{Place}
use Rattle.il_core.specs.declared.operator.BinOp.{BinOp}
use Rattle.il_core.specs.declared.operator.BinOp.TheVariants.{Add, Sub, Mul, Div, Mod, Compare, And, Or}

pub record Bounds : Type 0 where
  pub low : ℤ
  pub high : ℤ

abbrev pub only : ℤ → Bounds
only v = record { low = v; high = v }

-- the least and the greatest of four values
abbrev pub spanning : ℤ → ℤ → ℤ → ℤ → Bounds
spanning a b c d = record { low = int_min (int_min a b) (int_min c d); high = int_max (int_max a b) (int_max c d) }

-- the greater absolute value of the bounds
abbrev pub reach : Bounds → ℕ
reach a = max (unsigned_abs a.low) (unsigned_abs a.high)

abbrev pub is_positive_constant : Bounds → Bool
is_positive_constant b = int_eq b.low b.high && int_lt (pos 0) b.low

abbrev pub are_natural : Bounds → Bounds → Bool
are_natural a b = int_le (pos 0) a.low && int_le (pos 0) b.low

-- by a constant above 0 each bound is divided; of numbers that are at least 0 the quotient is between 0 and the dividend;
-- any other quotient is no further from 0 than the dividend
abbrev pub quotient_bounds : Bounds → Bounds → Bounds
quotient_bounds a b = if is_positive_constant b
    then record { low = int_div_euclid a.low b.low; high = int_div_euclid a.high b.low }
    else (if are_natural a b then record { low = pos 0; high = a.high } else record { low = neg_ℤ (pos (reach a)); high = pos (reach a) })

-- a remainder is between 0 and one less than the divisor's greater absolute value
abbrev pub remainder_bounds : Bounds → Bounds
remainder_bounds b = record { low = pos 0; high = int_max (pos 0) (pos (reach b) -ℤ pos 1) }

abbrev pub operator_bounds : BinOp → Bounds → Bounds → Bounds
operator_bounds Add a b = record { low = a.low +ℤ b.low; high = a.high +ℤ b.high }
operator_bounds Sub a b = record { low = a.low -ℤ b.high; high = a.high -ℤ b.low }
operator_bounds Mul a b = spanning (a.low *ℤ b.low) (a.low *ℤ b.high) (a.high *ℤ b.low) (a.high *ℤ b.high)
operator_bounds Div a b = quotient_bounds a b
operator_bounds Mod a b = remainder_bounds b
operator_bounds (Compare r) a b = only (pos 0)
operator_bounds And a b = only (pos 0)
operator_bounds Or a b = only (pos 0)

abbrev pub place_bounds : Option Place → Bounds
place_bounds None = only (pos 0)
place_bounds (Some p) = record { low = p.least; high = p.greatest }

-- the static bounds of an expression for whole numbers; a condition has none, and 0 stands there
abbrev pub bounds_of : List Place → Expression → Bounds
bounds_of places (number n) = only n
bounds_of places (variable p) = place_bounds (slice_get places p)
bounds_of places (flag p) = only (pos 0)
bounds_of places (truth b) = only (pos 0)
bounds_of places (minus e) = let a = bounds_of places e in record { low = neg_ℤ a.high; high = neg_ℤ a.low }
bounds_of places (opposite e) = only (pos 0)
bounds_of places (two o a b) = operator_bounds o (bounds_of places a) (bounds_of places b)

-- the bounds lie within 2 ^ 126 on either side of 0, both allowed
abbrev pub AreSmall : Bounds → Type 0
AreSmall a = (unsigned_abs a.low ≤ 2 ^ 126) × (unsigned_abs a.high ≤ 2 ^ 126)

-- each part of an expression has small static bounds
abbrev pub IsNarrow : List Place → Expression → Type 0
IsNarrow places (number n) = AreSmall (only n)
IsNarrow places (variable p) = AreSmall (place_bounds (slice_get places p))
IsNarrow places (flag p) = Unit {0}
IsNarrow places (truth b) = Unit {0}
IsNarrow places (minus e) = IsNarrow places e × AreSmall (bounds_of places (minus e))
IsNarrow places (opposite e) = IsNarrow places e
IsNarrow places (two o a b) = IsNarrow places a × IsNarrow places b × AreSmall (bounds_of places (two o a b))
