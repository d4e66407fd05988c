-- The expansion of a well-formed procedure is a checked procedure, where it keeps within the limits; and a text of such procedures is checked.
use Rattle.std.specs.Prelude.{◌≡◌, ◌≤◌, ℕ, List, ◌++◌, length, drop, take, slice_get, Some}
use Rattle.il_core.specs.Checked.{IsChecked, AreInOrder}
use Rattle.il_core.specs.LineGraph.{IsIn}
use Rattle.il_core.specs.Procedure.{Instruction}
use Rattle.il_core.specs.declared.line.Place.{Place}
use Rattle.il_called.specs.Called.{Passed, own, call, WrittenProcedure, WrittenText}
use Rattle.il_called.specs.CalledText.{AreApart, IsCalledText, returned_to}
use Rattle.il_called.specs.Expansion.{Callee, procedure_in, variables_in, expansion_of, callees_of}
use Rattle.call_checks.specs.WellFormed.{HaveSmallRanges, IsWellFormed, AreWellFormed, KeepsLimits}

-- a procedure that may be called: its expansion is checked, with its own variables in front and its own OLD copies at the end
pub record IsCallable (callee : Callee) : Type 0 where
  pub checked : IsChecked (procedure_in callee.expanded)
  pub in_order : AreInOrder callee.written.places
  pub small : HaveSmallRanges callee.written.places
  pub brought : List Place
  pub places : callee.expanded.places ≡ variables_in callee.written.places ++ brought ++ drop (length (variables_in callee.written.places)) callee.written.places

abbrev pub AreCallable : List Callee → Type 0
AreCallable callees = (c : ℕ) (callee : Callee) → slice_get callees c ≡ Some callee → IsCallable callee

-- a well-formed procedure may be called in its turn
abbrev pub ExpansionsAreChecked : Type 0
ExpansionsAreChecked = (callees : List Callee) (number : ℕ) (p : WrittenProcedure) → AreCallable callees → IsWellFormed callees p
    → KeepsLimits (record { written = p; expanded = expansion_of callees number p }) → IsCallable (record { written = p; expanded = expansion_of callees number p })

-- so all expansions of a well-formed text are checked procedures
abbrev pub TextsAreChecked : Type 0
TextsAreChecked = (procs : List WrittenProcedure) → AreWellFormed procs
    → ((k : ℕ) (callee : Callee) → slice_get (callees_of procs) k ≡ Some callee → KeepsLimits callee)
    → (k : ℕ) (callee : Callee) → slice_get (callees_of procs) k ≡ Some callee → IsChecked (procedure_in callee.expanded)

-- a text of well-formed procedures that keep within the limits, with no variable handed back to twice by one call, and with short names
pub record IsWellFormedText (t : WrittenText) : Type 0 where
  pub some_procedures : 1 ≤ length t.procs
  pub few_procedures : length t.procs ≤ 64
  pub low_profile : 1 ≤ t.profile
  pub high_profile : t.profile ≤ 2
  pub formed : AreWellFormed t.procs
  pub limits : (k : ℕ) (callee : Callee) → slice_get (callees_of t.procs) k ≡ Some callee → KeepsLimits callee
  pub apart : (k n c : ℕ) (p : WrittenProcedure) (arguments : List Passed) → slice_get t.procs k ≡ Some p → slice_get p.lines n ≡ Some (call c arguments)
      → AreApart (returned_to arguments)
  pub names : (k : ℕ) (callee : Callee) (place : Place) → slice_get (callees_of t.procs) k ≡ Some callee → IsIn callee.expanded.places place → length place.name ≤ 40

-- such a text is a checked text with calls
abbrev pub WellFormedAreChecked : Type 0
WellFormedAreChecked = (t : WrittenText) → IsWellFormedText t → IsCalledText t

abbrev pub BeginsOwn : WrittenProcedure → Type 0
BeginsOwn p = (i : Instruction) × (slice_get p.lines 0 ≡ Some (own i))

abbrev pub CallsEarlier : List Callee → WrittenProcedure → Type 0
CallsEarlier callees p = (n c : ℕ) (arguments : List Passed) → slice_get p.lines n ≡ Some (call c arguments) → (callee : Callee) × (slice_get callees c ≡ Some callee)

-- a procedure that calls earlier ones keeps within the limits itself where its expansion does, in a text whose procedures each begin with an own line
abbrev pub WrittenKeepLimits : Type 0
WrittenKeepLimits = (procs : List WrittenProcedure) → ((k : ℕ) (p : WrittenProcedure) → slice_get procs k ≡ Some p → BeginsOwn p)
    → ((k : ℕ) (callee : Callee) → slice_get (callees_of procs) k ≡ Some callee → KeepsLimits callee)
    → (k : ℕ) (p : WrittenProcedure) → slice_get procs k ≡ Some p → CallsEarlier (callees_of (take k procs)) p → (length p.lines ≤ 1000) × (length p.places ≤ 64)
