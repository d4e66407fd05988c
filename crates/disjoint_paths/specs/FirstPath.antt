-- A first path goes from line t to a target and passes neither targets nor line t nor any line twice; it is empty where there is none yet.
use Rattle.std.specs.Prelude.{◌≢◌, ℕ, ◌+◌, ◌<◌, List, length, slice_index}
use Rattle.il_core.specs.LineGraph.{IsIn}
use Rattle.flow_graph.specs.Search.{IsWalk, row_of}
use Rattle.flow_graph.specs.Reached.{Differ}

-- line b is in the row of line a
abbrev pub IsNext : List (List ℕ) → ℕ → ℕ → Type 0
IsNext rows a b = IsIn (row_of rows a) b

-- a line that may stand inside a path from line t into the set P: neither line t nor in P
abbrev pub IsInside : (ℕ → Type 0) → ℕ → ℕ → Type 0
IsInside P t v = (P v → ⊥) × (v ≢ t)

pub record IsFirstPath (E : ℕ → ℕ → Type 0) (P : ℕ → Type 0) (t : ℕ) (path : List ℕ) : Type 0 where
  pub stop : ℕ
  pub walk : IsWalk E t path stop
  pub ends : 0 < length path → P stop
  pub differ : Differ path
  pub inside : (i : ℕ) → i + 1 < length path → IsInside P t (slice_index path i)
