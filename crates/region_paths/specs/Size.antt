-- The size of a region: how many long paths it has, and how large the comparisons decided and the terms assigned on them are; and the first
-- limit that it passes.
use Rattle.std.specs.Prelude.{◌≡◌, ℕ, ◌+◌, ◌^◌, Option, Some, None, List, [], ◌∷◌, length, max, sum_by, nat_lt, nat_le, if◌then◌else◌}
use Rattle.il_core.specs.Procedure.{Procedure}
use Rattle.control_flow.specs.declared.control.LoopInfo.{LoopInfo}
use Rattle.sym_terms.specs.Measure.{nodes, weight, depth}
use Rattle.sym_terms.specs.Comparison.{comparison_nodes, comparison_weight, comparison_depth}
use Rattle.region_paths.specs.Listing.{RegionPath, AreLongPaths}
use Rattle.region_paths.specs.declared.limit.Limit.{Limit}
use Rattle.region_paths.specs.declared.limit.Limit.TheVariants.{Rows, Nodes, Weight, Depth}

-- the greatest of the numbers that f gives; 0 where there is none
abbrev pub greatest_by : {A : Type 0} → (A → ℕ) → List A → ℕ
greatest_by f [] = 0
greatest_by f (x ∷ xs) = max (f x) (greatest_by f xs)

abbrev pub path_nodes : RegionPath → ℕ
path_nodes r = sum_by comparison_nodes r.row.literals + sum_by nodes r.row.assigned

abbrev pub path_weight : RegionPath → ℕ
path_weight r = max (greatest_by comparison_weight r.row.literals) (greatest_by weight r.row.assigned)

abbrev pub path_depth : RegionPath → ℕ
path_depth r = max (greatest_by comparison_depth r.row.literals) (greatest_by depth r.row.assigned)

-- the first limit passed: more than 16,384 paths, more than 2,097,152 nodes in all, a weight of 2^100 or more, a depth of more than 1,000
abbrev pub limit_passed : ℕ → ℕ → ℕ → ℕ → Option Limit
limit_passed rows nodes weight depth =
    if nat_lt 16384 rows then Some Rows
    else (if nat_lt 2097152 nodes then Some Nodes
    else (if nat_le (2 ^ 100) weight then Some Weight
    else (if nat_lt 1000 depth then Some Depth else None)))

abbrev pub past_of : List RegionPath → Option Limit
past_of rows = limit_passed (length rows) (sum_by path_nodes rows) (greatest_by path_weight rows) (greatest_by path_depth rows)

-- the limit that the region of line pc passes first
abbrev pub IsPast : Procedure → List LoopInfo → ℕ → Option Limit → Type 0
IsPast p loops pc past = (rows : List RegionPath) × AreLongPaths p loops pc rows × (past_of rows ≡ past)
