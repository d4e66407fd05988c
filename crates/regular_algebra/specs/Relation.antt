-- A relation on the points 0 to 65, as rows of bits: row a has bit b where a and b are joined.
use Rattle.std.specs.Prelude.{◌≡◌, ◌<◌, ℕ, slice_index}
use Rattle.std.specs.Int.{bit_at}
use Rattle.regular_algebra.specs.declared.relation.BitRelation.{BitRelation}

abbrev pub HasBit : ℕ → ℕ → Type 0
HasBit row b = bit_at row b ≡ 1

abbrev pub Joins : BitRelation → ℕ → ℕ → Type 0
Joins r a b = (a < 66) × (b < 66) × HasBit (slice_index r.rows a) b
