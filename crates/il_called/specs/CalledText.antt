-- A checked text with calls: in each procedure the variables stand before the OLD copies of its INOUT variables; each call names an earlier
-- procedure, has an argument for each of its parameters, and for those that are handed back a variable each, none of them twice; and the
-- expansions are checked procedures, whose names have at most 40 bytes.
use Rattle.std.specs.Prelude.{◌≡◌, ◌≢◌, ◌≤◌, ◌<◌, ℕ, Bool, true, false, List, [], ◌∷◌, length, filter, slice_get, Some}
use Rattle.il_core.specs.Checked.{IsChecked, AreInOrder}
use Rattle.il_core.specs.LineGraph.{IsIn}
use Rattle.il_core.specs.declared.line.Place.{Place}
use Rattle.il_core.specs.declared.statement.Mode.{Mode}
use Rattle.il_called.specs.Called.{Passed, value, variable_of, own, call, WrittenProcedure, WrittenText}
use Rattle.il_called.specs.Expansion.{Callee, procedure_in, is_parameter, is_returned, variables_in, callees_of}

abbrev pub parameters_of : WrittenProcedure → List Place
parameters_of p = filter (λ v. is_parameter v.mode) (variables_in p.places)

-- an argument is a value, or where its parameter is handed back a variable
abbrev pub SuitsMode : Bool → Passed → Type 0
SuitsMode true (value e) = ⊥
SuitsMode true (variable_of p) = Unit {0}
SuitsMode false (value e) = Unit {0}
SuitsMode false (variable_of p) = ⊥

-- one argument for each parameter
abbrev pub Suit : List Place → List Passed → Type 0
Suit [] [] = Unit {0}
Suit [] (a ∷ arguments) = ⊥
Suit (v ∷ vs) [] = ⊥
Suit (v ∷ vs) (a ∷ arguments) = SuitsMode (is_returned v.mode) a × Suit vs arguments

-- the variables among arguments, to which parameters are handed back
abbrev pub returned_to : List Passed → List ℕ
returned_to [] = []
returned_to (value e ∷ arguments) = returned_to arguments
returned_to (variable_of p ∷ arguments) = p ∷ returned_to arguments

-- none stands twice
abbrev pub AreApart : List ℕ → Type 0
AreApart [] = Unit {0}
AreApart (p ∷ ps) = (IsIn ps p → ⊥) × AreApart ps

-- the calls of the procedure of a number
abbrev pub CallsFit : List WrittenProcedure → ℕ → WrittenProcedure → Type 0
CallsFit procs number p = (n c : ℕ) (arguments : List Passed) → slice_get p.lines n ≡ Some (call c arguments)
    → (c < number) × ((q : WrittenProcedure) × (slice_get procs c ≡ Some q) × Suit (parameters_of q) arguments × AreApart (returned_to arguments))

pub record IsCalledText (t : WrittenText) : Type 0 where
  pub some_procedures : 1 ≤ length t.procs
  pub few_procedures : length t.procs ≤ 64
  pub low_profile : 1 ≤ t.profile
  pub high_profile : t.profile ≤ 2
  pub in_order : (k : ℕ) (p : WrittenProcedure) → slice_get t.procs k ≡ Some p → AreInOrder p.places
  pub fit : (k : ℕ) (p : WrittenProcedure) → slice_get t.procs k ≡ Some p → CallsFit t.procs k p
  pub checked : (k : ℕ) (callee : Callee) → slice_get (callees_of t.procs) k ≡ Some callee → IsChecked (procedure_in callee.expanded)
  pub names : (k : ℕ) (callee : Callee) (place : Place) → slice_get (callees_of t.procs) k ≡ Some callee → IsIn callee.expanded.places place → length place.name ≤ 40
