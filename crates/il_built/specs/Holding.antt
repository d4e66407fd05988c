-- A list of places holds the places of a procedure: those of its variables, in the order of their declarations, and behind them the
-- OLD copies of its INOUT variables.
use Rattle.std.specs.Prelude.{◌≡◌, ◌≢◌, ℕ, ◌+◌, true, List, Some, slice_get}
use Rattle.il_core.specs.Checked.{old_copy}
use Rattle.il_core.specs.Run.{is_inout}
use Rattle.il_core.specs.Statement.{Placed, variable}
use Rattle.il_core.specs.declared.line.Place.{Place}
use Rattle.il_core.specs.declared.statement.Mode.{Mode}
use Rattle.il_core.specs.declared.statement.TypeUse.{TypeUse}
use Rattle.il_types.specs.Built.{place_of}
use Rattle.il_types.specs.Names.{Setting, setting, counts_at, front_of}

-- where the names of statement i are looked up
abbrev pub setting_at : List Placed → ℕ → Setting
setting_at stmts i = setting (front_of stmts).table stmts (counts_at stmts i).procedures i

-- statement i declares a variable
pub record Declares (stmts : List Placed) (i : ℕ) (m : Mode) (name : List ℕ) (used : TypeUse) : Type 0 where
  pub stmt : Placed
  pub there : slice_get stmts i ≡ Some stmt
  pub says : stmt.says ≡ variable m name used

-- each variable stands behind the beginning of a procedure
abbrev pub AreOwned : List Placed → Type 0
AreOwned stmts = (i : ℕ) (m : Mode) (name : List ℕ) (used : TypeUse) → Declares stmts i m name used → (counts_at stmts i).procedures ≢ 0

-- the places of a procedure that has so many variables
pub record Holds (places : List Place) (stmts : List Placed) (owner count : ℕ) : Type 0 where
  pub variables : (i : ℕ) (m : Mode) (name : List ℕ) (used : TypeUse) → Declares stmts i m name used → (counts_at stmts i).procedures ≡ owner
      → slice_get places (counts_at stmts i).variables ≡ Some (place_of (setting_at stmts i) (variable m name used))
  pub copies : (i : ℕ) (m : Mode) (name : List ℕ) (used : TypeUse) → Declares stmts i m name used → (counts_at stmts i).procedures ≡ owner → is_inout m ≡ true
      → slice_get places (count + (counts_at stmts i).copies) ≡ Some (old_copy (place_of (setting_at stmts i) (variable m name used)))
