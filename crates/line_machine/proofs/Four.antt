-- Four numbers whose least and greatest are small.
use Rattle.std.proofs.Common.{◌^◌, ◌≤◌, ℤ, unsigned_abs, arith}
use Rattle.std.proofs.lemmas.Int.{ints, clamps}
use Rattle.il_core.specs.Bounds.{AreSmall, spanning}

pub record AreFourSmall (a b c d : ℤ) : Type 0 where
  pub first : unsigned_abs a ≤ 2 ^ 126
  pub second : unsigned_abs b ≤ 2 ^ 126
  pub third : unsigned_abs c ≤ 2 ^ 126
  pub fourth : unsigned_abs d ≤ 2 ^ 126

pub four_small : (a b c d : ℤ) → AreSmall (spanning a b c d) → AreFourSmall a b c d
four_small a b c d s =
    record {
      first = omega (arith, ints, clamps, s.0, s.1);
      second = omega (arith, ints, clamps, s.0, s.1);
      third = omega (arith, ints, clamps, s.0, s.1);
      fourth = omega (arith, ints, clamps, s.0, s.1);
    }
