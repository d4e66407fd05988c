-- What holds of the test inputs of the rows of each region of a reducible procedure.
use Rattle.std.specs.Prelude.{◌≡◌, ◌↔◌, ℕ, Option, Some, List, map, slice_get}
use Rattle.il_core.specs.Evaluation.{State}
use Rattle.il_core.specs.Input.{IsInput}
use Rattle.il_core.specs.Procedure.{Procedure}
use Rattle.control_flow.specs.declared.control.LoopInfo.{LoopInfo}
use Rattle.sym_simplify.specs.Form.{form_value}
use Rattle.region_paths.specs.Laws.{BeginsRegion}
use Rattle.region_paths.specs.Listing.{RegionPath, IsShortPath}
use Rattle.region_paths.specs.Stepping.{StepsTo}
use Rattle.path_inputs.specs.Least.{Meets, IsPlainlyRefuted}
use Rattle.path_inputs.specs.Laws.{AreInCore}
use Rattle.semantic_tables.specs.Row.{NormalRow, forms_of, row_of, normal_row}
use Rattle.semantic_tables.specs.Table.{IsOpenPath, AreRowsOf}
use Rattle.semantic_tables.specs.declared.row.Row.{Row}
use Rattle.row_inputs.specs.Input.{TakesRow, IsTestInput, TestInputIs, TestInputsAre}

-- an input takes a row exactly where it meets each literal of it
abbrev pub RowsAreTakenWhereMet : Type 0
RowsAreTakenWhereMet = (p : Procedure) (loops : List LoopInfo) (pc : ℕ) (r : RegionPath) (s : State) → BeginsRegion p loops pc → IsShortPath p loops pc r
    → IsInput p.places pc s → Meets p.places pc (forms_of r) s ↔ TakesRow p loops pc s (normal_row r)

-- stepping from a test input leads to the row's stop, where each place has the value of the row's term in the input
abbrev pub TestInputsLeadToStops : Type 0
TestInputsLeadToStops = (p : Procedure) (loops : List LoopInfo) (pc : ℕ) (r : RegionPath) (s : State) → BeginsRegion p loops pc → IsShortPath p loops pc r
    → IsTestInput p loops pc (normal_row r) s → StepsTo p loops pc s r.stop (map (λ f. form_value f s) (normal_row r).values)

-- a row that is not plainly refuted has a test input, where each literal of it is easy and at most eight are `/=`
abbrev pub EasyRowsHaveInputs : Type 0
EasyRowsHaveInputs = (p : Procedure) (loops : List LoopInfo) (pc : ℕ) (r : RegionPath) (o : Option State) → BeginsRegion p loops pc → IsShortPath p loops pc r
    → (IsPlainlyRefuted p.places pc (forms_of r) → ⊥) → AreInCore (forms_of r) → TestInputIs p loops pc (normal_row r) o → (s : State) × (o ≡ Some s)

-- each input answered leads to its row's stop and values, and each row whose literals are easy and at most eight of them `/=` has one
pub record ServeRows (p : Procedure) (loops : List LoopInfo) (pc : ℕ) (rows : List NormalRow) (os : List (Option State)) : Type 0 where
  pub leads : (k : ℕ) (r : NormalRow) (s : State) → slice_get rows k ≡ Some r → slice_get os k ≡ Some (Some s)
      → StepsTo p loops pc s r.stop (map (λ f. form_value f s) r.values)
  pub easy : (k : ℕ) (r : NormalRow) → slice_get rows k ≡ Some r → AreInCore r.literals → (s : State) × (slice_get os k ≡ Some (Some s))

-- the test inputs of the rows of a table do so
abbrev pub TableInputsServe : Type 0
TableInputsServe = (p : Procedure) (loops : List LoopInfo) (pc : ℕ) (rows : List Row) (os : List (Option State)) → BeginsRegion p loops pc
    → AreRowsOf (IsOpenPath p loops pc) rows → TestInputsAre p loops pc (map row_of rows) os → ServeRows p loops pc (map row_of rows) os
