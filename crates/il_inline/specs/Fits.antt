-- What the lines of a procedure with calls need so that its expansion can be made: they call procedures that are expanded, and their lines and
-- places stand below the limits of a procedure.
use Rattle.std.specs.Prelude.{ℕ, suc, ◌+◌, ◌<◌, ◌≤◌, List, [], ◌∷◌, length}
use Rattle.il_core.specs.declared.line.Place.{Place}
use Rattle.il_called.specs.Called.{WrittenLine}
use Rattle.il_called.specs.Expansion.{Callee, width_of, brings}
use Rattle.il_inline.specs.declared.layout.Layout.{Layout}
use Rattle.il_inline.specs.Held.{CallsBelow}
use Rattle.il_inline.specs.Slots.{slot_in}

pub record LineFits (callees : List Callee) (count : ℕ) (layout : Layout) (n : ℕ) (line : WrittenLine) : Type 0 where
  pub below : CallsBelow count line
  pub start : (slot_in layout n).start + width_of callees line ≤ 1000
  pub base : (slot_in layout n).base + brings callees line ≤ 64
  pub calls : (slot_in layout n).calls < 1000

-- so do all lines, of which the first has number n
abbrev pub AllFit : List Callee → ℕ → Layout → ℕ → List WrittenLine → Type 0
AllFit callees count layout n [] = Unit {0}
AllFit callees count layout n (line ∷ lines) = LineFits callees count layout n line × AllFit callees count layout (suc n) lines

-- the names of these places are short enough
abbrev pub AreShort : List Place → Type 0
AreShort [] = Unit {0}
AreShort (place ∷ places) = (length place.name ≤ 40) × AreShort places
