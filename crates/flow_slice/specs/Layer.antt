-- A breadth-first search gives distances layer by layer: the lines of a set that have no distance get one and become part of the next layer.
use Rattle.std.specs.Prelude.{◌≡◌, ◌⊎◌, ℕ, ◌+◌, Option, Some, is_none, List, length}
use Rattle.std.specs.List.{count_by}
use Rattle.il_core.specs.LineGraph.{IsIn}
use Rattle.flow_graph.specs.Search.{row_of}
use Rattle.flow_slice.specs.Distance.{distance_at}

pub record Spread (P : ℕ → Type 0) (n : ℕ) (was now : List (Option ℕ)) (before after : List ℕ) : Type 0 where
  pub size : length now ≡ length was
  pub kept : (k m : ℕ) → distance_at was k ≡ Some m → distance_at now k ≡ Some m
  pub every : (k : ℕ) → P k → (m : ℕ) × (distance_at now k ≡ Some m)
  pub from : (k m : ℕ) → distance_at now k ≡ Some m → (distance_at was k ≡ Some m) ⊎ ((m ≡ n) × P k × IsIn after k)
  pub stay : (k : ℕ) → IsIn before k → IsIn after k
  pub added : (k : ℕ) → IsIn after k → IsIn before k ⊎ (distance_at now k ≡ Some n)
  pub left : count_by is_none now + length after ≡ count_by is_none was + length before

-- a line of the layer has line k in its row
abbrev pub IsBehind : List (List ℕ) → List ℕ → ℕ → Type 0
IsBehind rows layer k = (b : ℕ) × IsIn layer b × IsIn (row_of rows b) k
