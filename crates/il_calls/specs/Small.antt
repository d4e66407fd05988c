-- What the machine asks of a variable that a statement declares, which each has: a name of at most 40 bytes, and a range within 2 ^ 126 on
-- either side of 0.
use Rattle.std.specs.Prelude.{◌≡◌, ◌≤◌, ℕ, List, length, Some}
use Rattle.il_core.specs.Bounds.{AreSmall, place_bounds}
use Rattle.il_core.specs.Statement.{Statement, variable}
use Rattle.il_core.specs.declared.statement.Mode.{Mode}
use Rattle.il_core.specs.declared.statement.TypeUse.{TypeUse}
use Rattle.il_types.specs.Built.{place_of}
use Rattle.il_types.specs.Names.{Setting}

abbrev pub IsSmall : Setting → Statement → Type 0
IsSmall s x = (m : Mode) (name : List ℕ) (used : TypeUse) → x ≡ variable m name used
    → (length name ≤ 40) × AreSmall (place_bounds (Some (place_of s (variable m name used))))
