-- The table of a region within its size: the normal rows of its paths that are not plainly refuted, in order; the long rows are those of
-- all its long paths. A region past its size has neither, and the first limit that it passes stands there.
use Rattle.std.specs.Prelude.{◌≡◌, ℕ, Some, None, List, map}
use Rattle.il_core.specs.Procedure.{Procedure}
use Rattle.control_flow.specs.declared.control.LoopInfo.{LoopInfo}
use Rattle.region_paths.specs.Listing.{RegionPath, IsShortPath, IsLongPath, ListsPaths}
use Rattle.region_paths.specs.Size.{IsPast}
use Rattle.path_inputs.specs.Least.{IsPlainlyRefuted}
use Rattle.semantic_tables.specs.Row.{forms_of, row_of, normal_row}
use Rattle.semantic_tables.specs.declared.row.Row.{Row}
use Rattle.semantic_tables.specs.declared.row.TableOr.{TableOr}
use Rattle.semantic_tables.specs.declared.row.TableOr.TheVariants.{Table, Past}

-- a path of the region of line pc that is not plainly refuted
abbrev pub IsOpenPath : Procedure → List LoopInfo → ℕ → RegionPath → Type 0
IsOpenPath p loops pc r = IsShortPath p loops pc r × (IsPlainlyRefuted p.places pc (forms_of r) → ⊥)

-- the rows are the normal rows of the paths with a property, in order
abbrev pub AreRowsOf : (RegionPath → Type 0) → List Row → Type 0
AreRowsOf P rows = (paths : List RegionPath) × ListsPaths P paths × (map row_of rows ≡ map normal_row paths)

-- the rows of the paths with a property, exactly where the region is within its size
abbrev pub IsTableOf : (RegionPath → Type 0) → Procedure → List LoopInfo → ℕ → TableOr → Type 0
IsTableOf P p loops pc (Table rows) = IsPast p loops pc None × AreRowsOf P rows
IsTableOf P p loops pc (Past limit) = IsPast p loops pc (Some limit)

abbrev pub IsTable : Procedure → List LoopInfo → ℕ → TableOr → Type 0
IsTable p loops pc t = IsTableOf (IsOpenPath p loops pc) p loops pc t

abbrev pub IsLongTable : Procedure → List LoopInfo → ℕ → TableOr → Type 0
IsLongTable p loops pc t = IsTableOf (IsLongPath p loops pc) p loops pc t
