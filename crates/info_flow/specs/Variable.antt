-- The variables among places: those that are no OLD copies.
use Rattle.std.specs.Prelude.{◌≡◌, ℕ, false, Some, List, slice_get}
use Rattle.il_core.specs.declared.line.Place.{Place}

-- place k is there, and a variable
abbrev pub IsVariable : List Place → ℕ → Type 0
IsVariable places k = (p : Place) × (slice_get places k ≡ Some p) × (p.old ≡ false)
