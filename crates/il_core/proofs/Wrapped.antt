-- A value of a place's range wraps to itself.
use Rattle.std.proofs.Common.{◌≡◌, ap, ℤ, pos, negsuc, ◌+ℤ◌, ◌-ℤ◌, ◌≤ℤ◌, ◌<ℤ◌, arith}
use Rattle.std.proofs.Math.Nat.{mod-eq_of_lt}
use Rattle.std.proofs.lemmas.Int.{ints}
use Rattle.std.specs.Int.{int_rem_euclid}
use Rattle.il_core.specs.Machine.{wrapped}
use Rattle.il_core.specs.declared.line.Place.{Place}

-- a number that is at least 0 and below the divisor is its own remainder
pub own_remainder : (a b : ℤ) → pos 0 ≤ℤ a → a <ℤ b → int_rem_euclid a b ≡ a
own_remainder (pos a) (pos b) l h = ap pos (mod-eq_of_lt (omega (arith, ints)))
own_remainder (pos a) (negsuc b) l h = absurd (omega (arith, ints))
own_remainder (negsuc a) b l h = absurd (omega (arith, ints))

pub wrapped_own : (p : Place) (v : ℤ) → p.least ≤ℤ v → v ≤ℤ p.greatest → wrapped p v ≡ v
wrapped_own p v l h =
    let same : int_rem_euclid (v -ℤ p.least) ((p.greatest -ℤ p.least) +ℤ pos 1) ≡ v -ℤ p.least =
    own_remainder (v -ℤ p.least) ((p.greatest -ℤ p.least) +ℤ pos 1) (omega (arith, ints)) (omega (arith, ints)) in
    rw same (omega (arith, ints))
