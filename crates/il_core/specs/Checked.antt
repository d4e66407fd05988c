-- A checked procedure: its lines and places fit together, so that each step of each run is defined.
use Rattle.std.specs.Prelude.{◌≡◌, ◌≢◌, ℕ, ◌+◌, ◌<◌, ◌≤◌, pos, ◌≤ℤ◌, Bool, true, false, List, ◌++◌, map, filter, length, slice_get, Some}
use Rattle.il_core.specs.Expression.{Expression}
use Rattle.il_core.specs.Procedure.{Procedure, Instruction, instruction_of, pre, assign, if_true, otherwise, end_if, loop, end_loop, exit, exit_when, label, goto, skip, assert, return, end_procedure}
use Rattle.il_core.specs.Bounds.{IsNarrow}
use Rattle.il_core.specs.Kind.{IsWhole, IsCondition}
use Rattle.il_core.specs.Run.{is_inout, is_variable}
use Rattle.il_core.specs.declared.line.Place.{Place}
use Rattle.il_core.specs.declared.line.Line.{Line}
use Rattle.il_core.specs.declared.statement.Mode.TheVariants.{Input}

-- a line other than line 0 and other than the line pc that names it
pub record IsTarget (count pc target : ℕ) : Type 0 where
  pub inside : target < count
  pub later : 0 < target
  pub other : target ≢ pc

-- a well typed condition whose parts have small static bounds
pub record IsSoundCondition (places : List Place) (e : Expression) : Type 0 where
  pub typed : IsCondition places e
  pub narrow : IsNarrow places e

-- what a place is given: a condition where it holds truth values, a whole number otherwise
abbrev pub Suits : Bool → List Place → Expression → Type 0
Suits true places e = IsCondition places e
Suits false places e = IsWhole places e

-- an expression that may be assigned to place p: a variable that is not IN
pub record IsSoundAssignment (places : List Place) (p : ℕ) (e : Expression) : Type 0 where
  pub target : Place
  pub there : slice_get places p ≡ Some target
  pub variable : target.old ≡ false
  pub writable : target.mode ≢ Input
  pub typed : Suits target.flag places e
  pub narrow : IsNarrow places e

-- an instruction that may stand at line pc of count lines
abbrev pub FitsAt : List Place → ℕ → ℕ → Instruction → Type 0
FitsAt places count pc (pre e) = (pc ≡ 0) × IsSoundCondition places e
FitsAt places count pc (assign p e) = (pc + 1 < count) × IsSoundAssignment places p e
FitsAt places count pc (if_true e q) = (pc + 1 < count) × IsTarget count pc q × IsSoundCondition places e
FitsAt places count pc (otherwise q) = IsTarget count pc q
FitsAt places count pc end_if = pc + 1 < count
FitsAt places count pc loop = pc + 1 < count
FitsAt places count pc (end_loop q) = IsTarget count pc q
FitsAt places count pc (exit q) = IsTarget count pc q
FitsAt places count pc (exit_when e q) = (pc + 1 < count) × IsTarget count pc q × IsSoundCondition places e
FitsAt places count pc label = pc + 1 < count
FitsAt places count pc (goto q) = IsTarget count pc q
FitsAt places count pc skip = pc + 1 < count
FitsAt places count pc (assert e) = (pc + 1 < count) × IsSoundCondition places e
FitsAt places count pc (return q) = (q + 1 ≡ count) × IsTarget count pc q
FitsAt places count pc (end_procedure e) = (pc + 1 ≡ count) × IsSoundCondition places e

-- the least value is not above the greatest; truth values are 0 and 1
pub record HasRange (p : Place) : Type 0 where
  pub ordered : p.least ≤ℤ p.greatest
  pub bits : p.flag ≡ true → (p.least ≡ pos 0) × (p.greatest ≡ pos 1)

abbrev pub old_copy : Place → Place
old_copy p = record p { old = true }

abbrev pub is_copied : Place → Bool
is_copied p = is_inout p.mode

-- the places are the variables in the order of their declarations, then the OLD copies of the INOUT variables in that order
abbrev pub AreInOrder : List Place → Type 0
AreInOrder places = let variables = filter is_variable places in places ≡ variables ++ map old_copy (filter is_copied variables)

pub record IsChecked (p : Procedure) : Type 0 where
  pub some_lines : 2 ≤ length p.lines
  pub few_lines : length p.lines ≤ 1000
  pub few_places : length p.places ≤ 64
  pub begins : (e : Expression) × (slice_get p.lines 0 ≡ Some (pre e))
  pub ends : (e : Expression) × (pc : ℕ) × (pc + 1 ≡ length p.lines) × (slice_get p.lines pc ≡ Some (end_procedure e))
  pub fits : (pc : ℕ) (i : Instruction) → slice_get p.lines pc ≡ Some i → FitsAt p.places (length p.lines) pc i
  pub ranges : (k : ℕ) (place : Place) → slice_get p.places k ≡ Some place → HasRange place
  pub in_order : AreInOrder p.places

-- a procedure with its name, as the types of the code hold it
pub record NamedProcedure : Type 0 where
  pub name : List ℕ
  pub places : List Place
  pub lines : List Line

abbrev pub procedure_of : NamedProcedure → Procedure
procedure_of p = record { places = p.places; lines = map instruction_of p.lines }

-- a text: its title, its profile and its procedures in order
pub record NamedText : Type 0 where
  pub title : List ℕ
  pub profile : ℕ
  pub procs : List NamedProcedure

pub record IsCheckedText (t : NamedText) : Type 0 where
  pub some_procedures : 1 ≤ length t.procs
  pub few_procedures : length t.procs ≤ 64
  pub low_profile : 1 ≤ t.profile
  pub high_profile : t.profile ≤ 2
