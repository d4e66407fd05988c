-- A run is what steps make of line 0 and an initial state, of any length so far.
use Rattle.std.specs.Prelude.{◌≡◌, ◌≢◌, ℕ, zero, suc, ◌+◌, ◌≤ℤ◌, Bool, true, false, not, ◌&&◌, List, [], ◌∷◌, length, filter, if◌then◌else◌, slice_get, Some}
use Rattle.il_core.specs.Evaluation.{State, value_at}
use Rattle.il_core.specs.Machine.{step, goes, stays}
use Rattle.il_core.specs.Procedure.{Procedure}
use Rattle.il_core.specs.declared.line.Place.{Place}
use Rattle.il_core.specs.declared.line.Halt.{Halt}
use Rattle.il_core.specs.declared.line.Halt.TheVariants.{End, Outside, FailedAssert, FailedPost, DivZero, Range}
use Rattle.il_core.specs.declared.statement.Mode.{Mode}
use Rattle.il_core.specs.declared.statement.Mode.TheVariants.{Input, InOut, Output, Local}

-- each place has a value of its range
pub record IsInRange (places : List Place) (s : State) : Type 0 where
  pub size : length s ≡ length places
  pub least : (k : ℕ) (p : Place) → slice_get places k ≡ Some p → p.least ≤ℤ value_at s k
  pub greatest : (k : ℕ) (p : Place) → slice_get places k ≡ Some p → value_at s k ≤ℤ p.greatest

abbrev pub is_inout : Mode → Bool
is_inout Input = false
is_inout InOut = true
is_inout Output = false
is_inout Local = false

abbrev pub is_variable : Place → Bool
is_variable p = not p.old

-- the number of places that are variables; the OLD copies stand behind them
abbrev pub variable_count : List Place → ℕ
variable_count places = length (filter is_variable places)

-- the numbers of the INOUT variables among places that are numbered from k on
abbrev pub inout_from : ℕ → List Place → List ℕ
inout_from k [] = []
inout_from k (p ∷ ps) = if is_variable p && is_inout p.mode then k ∷ inout_from (suc k) ps else inout_from (suc k) ps

-- in range, and each OLD copy equals its variable
pub record IsInitial (places : List Place) (s : State) : Type 0 where
  pub in_range : IsInRange places s
  pub same : (j k : ℕ) → slice_get (inout_from 0 places) j ≡ Some k → value_at s (variable_count places + j) ≡ value_at s k

-- n steps, none of which halts, lead from line pc and state s to line to_pc and state to_s
abbrev pub Steps : Procedure → ℕ → ℕ → State → ℕ → State → Type 0
Steps p zero pc s to_pc to_s = (pc ≡ to_pc) × (s ≡ to_s)
Steps p (suc n) pc s to_pc to_s = (mid : ℕ) × (between : State) × (step p pc s ≡ goes mid between) × Steps p n mid between to_pc to_s

-- n steps and one more, which halts
pub record HaltsAfter (p : Procedure) (n pc : ℕ) (s : State) (halt : Halt) (to_s : State) : Type 0 where
  pub last : ℕ
  pub steps : Steps p n pc s last to_s
  pub halts : step p last to_s ≡ stays halt to_s

-- a run that halts with End
pub record Ends (p : Procedure) (s to_s : State) : Type 0 where
  pub count : ℕ
  pub initial : IsInitial p.places s
  pub halts : HaltsAfter p count 0 s End to_s

-- the run from this state is one from the precondition
abbrev pub IsInside : Procedure → State → Type 0
IsInside p s = IsInitial p.places s × (step p 0 s ≢ stays Outside s)

-- the halts that no proved procedure comes to
abbrev pub is_bad : Halt → Bool
is_bad End = false
is_bad Outside = false
is_bad (FailedAssert pc) = true
is_bad FailedPost = true
is_bad (DivZero pc) = true
is_bad (Range pc) = true

-- no run from the precondition faults, fails an assertion or ends outside the postcondition
abbrev pub HasNoBadRun : Procedure → Type 0
HasNoBadRun p = (n : ℕ) (s to_s : State) (halt : Halt) → IsInside p s → HaltsAfter p n 0 s halt to_s → is_bad halt ≡ false
