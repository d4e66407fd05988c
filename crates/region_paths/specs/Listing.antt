-- The paths of a region, in the order of their decisions, true first.
use Rattle.std.specs.Prelude.{◌≡◌, ◌↔◌, ℕ, Bool, true, false, List, [], ◌∷◌, length}
use Rattle.il_core.specs.Procedure.{Procedure}
use Rattle.il_core.specs.LineGraph.{IsIn}
use Rattle.il_core.specs.declared.line.Stop.{Stop}
use Rattle.control_flow.specs.declared.control.LoopInfo.{LoopInfo}
use Rattle.sym_terms.specs.Tree.{Tree}
use Rattle.sym_terms.specs.Identity.{own_values}
use Rattle.test_graph.specs.Way.{Way}
use Rattle.region_paths.specs.Chain.{IsChain, IsLongChain}
use Rattle.region_paths.specs.PlainRow.{PlainRow, along}

pub record RegionPath : Type 0 where
  pub row : PlainRow
  pub stop : Stop

-- the plain row of a chain, before which the places have these terms
pub record IsRowOf (Chain : List Way → Stop → Type 0) (terms : List Tree) (r : RegionPath) : Type 0 where
  pub ways : List Way
  pub chain : Chain ways r.stop
  pub row : r.row ≡ along ways terms

-- a path of the region that begins at line pc, where each place has its own value
abbrev pub IsShortPath : Procedure → List LoopInfo → ℕ → RegionPath → Type 0
IsShortPath p loops pc r = IsRowOf (IsChain p loops pc) (own_values (length p.places)) r

abbrev pub IsLongPath : Procedure → List LoopInfo → ℕ → RegionPath → Type 0
IsLongPath p loops pc r = IsRowOf (IsLongChain p loops pc) (own_values (length p.places)) r

-- the order of decisions: where they differ first, true stands before false, and a beginning before what it begins
abbrev pub is_before : List Bool → List Bool → Bool
is_before a [] = false
is_before [] (y ∷ b) = true
is_before (true ∷ a) (true ∷ b) = is_before a b
is_before (true ∷ a) (false ∷ b) = true
is_before (false ∷ a) (true ∷ b) = false
is_before (false ∷ a) (false ∷ b) = is_before a b

-- each path stands before all behind it
abbrev pub Ascend : List RegionPath → Type 0
Ascend [] = Unit {0}
Ascend (r ∷ rows) = ((q : RegionPath) → IsIn rows q → is_before r.row.path q.row.path ≡ true) × Ascend rows

-- the list has exactly the paths with a property, in order
pub record ListsPaths (P : RegionPath → Type 0) (rows : List RegionPath) : Type 0 where
  pub ordered : Ascend rows
  pub each : (r : RegionPath) → IsIn rows r ↔ P r

abbrev pub AreShortPaths : Procedure → List LoopInfo → ℕ → List RegionPath → Type 0
AreShortPaths p loops pc rows = ListsPaths (IsShortPath p loops pc) rows

abbrev pub AreLongPaths : Procedure → List LoopInfo → ℕ → List RegionPath → Type 0
AreLongPaths p loops pc rows = ListsPaths (IsLongPath p loops pc) rows
