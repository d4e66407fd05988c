-- A fan of a line: a path to it from line t, and another from line t to a line of the first path and on along that; no line stands on both.
use Rattle.std.specs.Prelude.{◌≡◌, ℕ, List, ◌∷◌, ◌++◌, drop}
use Rattle.il_core.specs.LineGraph.{IsIn}
use Rattle.flow_graph.specs.Search.{IsWalk}
use Rattle.flow_graph.specs.Reached.{Differ}
use Rattle.disjoint_paths.specs.declared.pair.Pair.{Pair}
use Rattle.disjoint_paths.specs.FirstPath.{IsInside}

-- the lines of both paths before the first path are among those of the list seen
pub record IsFan (E : ℕ → ℕ → Type 0) (P : ℕ → Type 0) (t : ℕ) (path seen : List ℕ) (line from : ℕ) (to beside : List ℕ) : Type 0 where
  pub leads : IsWalk E t to line
  pub other : (x : ℕ) → IsWalk E t path x → IsWalk E t (beside ++ drop from path) x
  pub differ : Differ (to ++ (beside ++ drop from path))
  pub known : (v : ℕ) → IsIn (to ++ beside) v → IsIn seen v
  pub inside : (v : ℕ) → IsIn (to ++ beside) v → IsInside P t v

-- a fan as the lists of all lines, line t among them
abbrev pub HasFan : (ℕ → ℕ → Type 0) → (ℕ → Type 0) → ℕ → List ℕ → List ℕ → ℕ → ℕ → Pair → Type 0
HasFan E P t path seen line from pair =
    (to : List ℕ) × (beside : List ℕ) × (pair.left ≡ t ∷ to) × (pair.right ≡ t ∷ beside) × IsFan E P t path seen line from to beside
