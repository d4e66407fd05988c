-- What the expansion does with an expression and with a line leaves its meaning as it is.
use Rattle.std.specs.Prelude.{◌≡◌, ℕ, ◌+◌, ◌<◌, List, length}
use Rattle.il_core.specs.Evaluation.{State, value_at, whole, holds}
use Rattle.il_core.specs.Expression.{Expression}
use Rattle.il_core.specs.Machine.{stepped}
use Rattle.il_core.specs.Procedure.{Instruction}
use Rattle.il_core.specs.declared.line.Place.{Place}
use Rattle.il_called.specs.Expansion.{renumbered, moved, inlined}
use Rattle.il_inline.specs.Within.{NamesBelow, IsWithin}
use Rattle.il_runs.specs.Moved.{Stand, HasValues, EndsAlike, own_next, called_next}

-- an expression over the first places has its value and its truth where these have their values under other numbers
pub record HasSameValue (number : ℕ → ℕ) (s t : State) (e : Expression) : Type 0 where
  pub numbers : whole (renumbered number e) t ≡ whole e s
  pub conditions : holds (renumbered number e) t ≡ holds e s

abbrev pub RenumberedHaveSameValue : Type 0
RenumberedHaveSameValue = (number : ℕ → ℕ) (count : ℕ) (s t : State) (e : Expression) → NamesBelow count e
    → ((p : ℕ) → p < count → value_at t (number p) ≡ value_at s p) → HasSameValue number s t e

-- a line of a procedure, at line pc there and at line pc of its expansion, with its places under other numbers and its targets at other lines:
-- it steps to the same line, as these are numbered, or to the same halt, with the same values
pub record IsMoved (number line : ℕ → ℕ) (places wide : List Place) (pc : ℕ) (s t : State) (i : Instruction) : Type 0 where
  pub stand : Stand number places wide
  pub values : HasValues number places wide s t
  pub targets : ℕ
  pub within : IsWithin (length places) targets i
  pub follows : line (pc + 1) ≡ line pc + 1

abbrev pub MovedLinesStepAlike : Type 0
MovedLinesStepAlike = (number line : ℕ → ℕ) (places wide : List Place) (pc : ℕ) (s t : State) (i : Instruction) → IsMoved number line places wide pc s t i
    → EndsAlike (own_next line (line pc)) number places wide (stepped places pc s i) (stepped wide (line pc) t (moved number line i))

-- the same in a procedure that is called
abbrev pub InlinedLinesStepAlike : Type 0
InlinedLinesStepAlike = (number line : ℕ → ℕ) (places wide : List Place) (pc : ℕ) (s t : State) (i : Instruction) → IsMoved number line places wide pc s t i
    → EndsAlike (called_next line (line pc)) number places wide (stepped places pc s i) (stepped wide (line pc) t (inlined number line i))
