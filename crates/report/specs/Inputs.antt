-- The test inputs of a procedure: for each region within its size, in the order of the tables, the test input of each row of its table.
use Rattle.std.specs.Prelude.{◌≡◌, ℕ, List, [], ◌∷◌, map}
use Rattle.control_flow.specs.declared.control.LoopInfo.{LoopInfo}
use Rattle.il_core.specs.Procedure.{Procedure}
use Rattle.row_inputs.specs.Input.{TestInputsAre}
use Rattle.semantic_tables.specs.Row.{row_of}
use Rattle.semantic_tables.specs.declared.row.TableOr.{TableOr}
use Rattle.semantic_tables.specs.declared.row.TableOr.TheVariants.{Table, Past}
use Rattle.report.specs.declared.report.RegionTable.{RegionTable}
use Rattle.report.specs.declared.report.RegionInputs.{RegionInputs}

-- the inputs of the region of line pc, if this is its table, with what is told of the regions behind it
abbrev pub AreInputsBy : Procedure → List LoopInfo → TableOr → (pc : ℕ) → (List RegionInputs → Type 0) → List RegionInputs → Type 0
AreInputsBy p loops (Past limit) pc Behind all = Behind all
AreInputsBy p loops (Table rows) pc Behind [] = ⊥
AreInputsBy p loops (Table rows) pc Behind (i ∷ is) = (i.pc ≡ pc) × TestInputsAre p loops pc (map row_of rows) i.rows × Behind is

-- none of a region past its size, and of each other one those of its rows
abbrev pub AreInputs : Procedure → List LoopInfo → List RegionTable → List RegionInputs → Type 0
AreInputs p loops [] [] = Unit {0}
AreInputs p loops [] (i ∷ is) = ⊥
AreInputs p loops (t ∷ ts) is = AreInputsBy p loops t.body t.pc (AreInputs p loops ts) is
