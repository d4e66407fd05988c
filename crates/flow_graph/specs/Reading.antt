-- An expression reads the places that it names; a mask has bit p for place p.
use Rattle.std.specs.Prelude.{◌≡◌, ◌⊎◌, ℕ, ◌^◌, nat_lt, if◌then◌else◌}
use Rattle.std.specs.Int.RustNames.{bit_or}
use Rattle.il_core.specs.Expression.{Expression, number, variable, flag, truth, minus, opposite, two}

-- an expression names a place
abbrev pub Reads : Expression → ℕ → Type 0
Reads (number n) p = ⊥
Reads (variable q) p = q ≡ p
Reads (flag q) p = q ≡ p
Reads (truth b) p = ⊥
Reads (minus e) p = Reads e p
Reads (opposite e) p = Reads e p
Reads (two o a b) p = Reads a p ⊎ Reads b p

-- the mask of one place; a mask has 64 bits, and a place from 64 on has none
abbrev pub place_mask : ℕ → ℕ
place_mask p = if nat_lt p 64 then 2 ^ p else 0

-- the mask of the places that an expression names
abbrev pub mask_of : Expression → ℕ
mask_of (number n) = 0
mask_of (variable p) = place_mask p
mask_of (flag p) = place_mask p
mask_of (truth b) = 0
mask_of (minus e) = mask_of e
mask_of (opposite e) = mask_of e
mask_of (two o a b) = bit_or (mask_of a) (mask_of b)
