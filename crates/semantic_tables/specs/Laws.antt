-- What holds of the tables of each region of a reducible procedure.
use Rattle.std.specs.Prelude.{◌≡◌, ℕ, Result, Ok, Err, List, map}
use Rattle.il_core.specs.Procedure.{Procedure}
use Rattle.control_flow.specs.declared.control.LoopInfo.{LoopInfo}
use Rattle.region_paths.specs.declared.limit.Limit.{Limit}
use Rattle.region_paths.specs.Laws.{BeginsRegion}
use Rattle.semantic_tables.specs.Row.{NormalRow, row_of}
use Rattle.semantic_tables.specs.Table.{IsTable, IsLongTable}
use Rattle.semantic_tables.specs.OneRow.{OneRowEach, OneLongRowEach}
use Rattle.semantic_tables.specs.declared.row.TableOr.{TableOr}
use Rattle.semantic_tables.specs.declared.row.TableOr.TheVariants.{Table, Past}

-- each input of a region has exactly one row of its table
abbrev pub InputsHaveOneRow : Type 0
InputsHaveOneRow = (p : Procedure) (loops : List LoopInfo) (pc : ℕ) (t : TableOr) → BeginsRegion p loops pc → IsTable p loops pc t → OneRowEach p loops pc t

-- and exactly one of its long rows
abbrev pub InputsHaveOneLongRow : Type 0
InputsHaveOneLongRow = (p : Procedure) (loops : List LoopInfo) (pc : ℕ) (t : TableOr) → BeginsRegion p loops pc → IsLongTable p loops pc t → OneLongRowEach p loops pc t

-- the normal rows of a table, or the limit that stands for them
abbrev pub told : TableOr → Result (List NormalRow) Limit
told (Table rows) = Ok (map row_of rows)
told (Past limit) = Err limit

-- a region has no two tables, and no two lists of long rows
pub record HasOneTable (p : Procedure) (loops : List LoopInfo) (pc : ℕ) : Type 0 where
  pub short : (t u : TableOr) → IsTable p loops pc t → IsTable p loops pc u → told t ≡ told u
  pub long : (t u : TableOr) → IsLongTable p loops pc t → IsLongTable p loops pc u → told t ≡ told u

abbrev pub OneTable : Type 0
OneTable = (p : Procedure) (loops : List LoopInfo) (pc : ℕ) → HasOneTable p loops pc
