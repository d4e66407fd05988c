-- A procedure with calls that is well formed over those that stand before it: with a SKIP for each call it is a checked procedure, its places have
-- small ranges, and each call names an earlier procedure and has an argument for each of its parameters that suits it.
use Rattle.std.specs.Prelude.{◌≡◌, ◌≢◌, ◌≤◌, ℕ, false, List, [], ◌∷◌, length, map, take, slice_get, Some}
use Rattle.il_core.specs.Bounds.{AreSmall, IsNarrow, place_bounds}
use Rattle.il_core.specs.Checked.{IsChecked, Suits}
use Rattle.il_core.specs.Expression.{Expression}
use Rattle.il_core.specs.Procedure.{Instruction, Procedure, skip}
use Rattle.il_core.specs.declared.line.Place.{Place}
use Rattle.il_core.specs.declared.statement.Mode.TheVariants.{Input}
use Rattle.il_called.specs.Called.{Passed, value, variable_of, WrittenLine, own, call, WrittenProcedure}
use Rattle.il_called.specs.CalledText.{Suit, parameters_of}
use Rattle.il_called.specs.Expansion.{Callee, callees_of}

-- a procedure with a SKIP for each call
abbrev pub uncalled : WrittenLine → Instruction
uncalled (own i) = i
uncalled (call c arguments) = skip

abbrev pub without_calls : WrittenProcedure → Procedure
without_calls p = record { places = p.places; lines = map uncalled p.lines }

-- ranges within 2 ^ 126 on either side of 0
abbrev pub HaveSmallRanges : List Place → Type 0
HaveSmallRanges places = (k : ℕ) (place : Place) → slice_get places k ≡ Some place → AreSmall (place_bounds (Some place))

-- a value over the caller's places that parameter v may be given
pub record IsGiven (places : List Place) (v : Place) (e : Expression) : Type 0 where
  pub typed : Suits v.flag places e
  pub narrow : IsNarrow places e

-- a variable of the caller, not IN, to which parameter v may be handed back
pub record IsHandedTo (places : List Place) (v : Place) (p : ℕ) : Type 0 where
  pub target : Place
  pub there : slice_get places p ≡ Some target
  pub variable : target.old ≡ false
  pub writable : target.mode ≢ Input
  pub same : target.flag ≡ v.flag

abbrev pub IsArgument : List Place → Place → Passed → Type 0
IsArgument places v (value e) = IsGiven places v e
IsArgument places v (variable_of p) = IsHandedTo places v p

-- each argument suits its parameter; whether there is one for each is asked apart
abbrev pub AreArguments : List Place → List Place → List Passed → Type 0
AreArguments places [] arguments = Unit {0}
AreArguments places (v ∷ vs) [] = Unit {0}
AreArguments places (v ∷ vs) (a ∷ arguments) = IsArgument places v a × AreArguments places vs arguments

-- a call of the procedure of a number
pub record IsSoundCall (callees : List Callee) (places : List Place) (c : ℕ) (arguments : List Passed) : Type 0 where
  pub callee : Callee
  pub there : slice_get callees c ≡ Some callee
  pub suits : Suit (parameters_of callee.written) arguments
  pub sound : AreArguments places (parameters_of callee.written) arguments

pub record IsWellFormed (callees : List Callee) (p : WrittenProcedure) : Type 0 where
  pub checked : IsChecked (without_calls p)
  pub small : HaveSmallRanges p.places
  pub calls : (n c : ℕ) (arguments : List Passed) → slice_get p.lines n ≡ Some (call c arguments) → IsSoundCall callees p.places c arguments

-- each procedure of a text is well formed over those before it
abbrev pub AreWellFormed : List WrittenProcedure → Type 0
AreWellFormed procs = (k : ℕ) (p : WrittenProcedure) → slice_get procs k ≡ Some p → IsWellFormed (callees_of (take k procs)) p

-- an expansion keeps within the limits of a procedure
pub record KeepsLimits (callee : Callee) : Type 0 where
  pub few_lines : length callee.expanded.lines ≤ 1000
  pub few_places : length callee.expanded.places ≤ 64
