-- A path is a walk that passes no line twice: for each line that is found, a path to it over lines that are not blocked.
use Rattle.std.specs.Prelude.{◌≡◌, ◌≢◌, ◌⊎◌, ℕ, Bool, List, [], ◌∷◌, ◌++◌, length}
use Rattle.il_core.specs.LineGraph.{IsIn}
use Rattle.flow_graph.specs.Search.{IsWalk, IsMarked, Follows, IsFound, row_of}
use Rattle.flow_graph.specs.Reached.{Differ}

-- the lines of a path from line start over lines that are not blocked, each once, the last of which is line k
abbrev pub IsPathTo : List (List ℕ) → List Bool → ℕ → List ℕ → ℕ → Type 0
IsPathTo rows blocked start [] k = ⊥
IsPathTo rows blocked start (a ∷ lines) k = (a ≡ start) × Differ (a ∷ lines) × IsWalk (Follows rows blocked) a lines k

-- a path to each line that is found, and no lines for each other line
pub record ArePaths (rows : List (List ℕ)) (blocked : List Bool) (start : ℕ) (paths : List (List ℕ)) : Type 0 where
  pub size : length paths ≡ length rows
  pub path : (k : ℕ) → row_of paths k ≢ [] → IsPathTo rows blocked start (row_of paths k) k
  pub complete : (k : ℕ) → IsFound rows blocked (start ∷ []) k → row_of paths k ≢ []

-- the marked lines of a row that had no path have that of line at, lengthened by themselves
pub record Lengthened (row : List ℕ) (marked : List Bool) (at : ℕ) (was now : List (List ℕ)) : Type 0 where
  pub size : length now ≡ length was
  pub kept : (k : ℕ) → row_of was k ≢ [] → row_of now k ≡ row_of was k
  pub every : (k : ℕ) → IsIn row k → IsMarked marked k → row_of now k ≢ []
  pub from : (k : ℕ) → (row_of now k ≡ row_of was k) ⊎ ((row_of was k ≡ []) × IsIn row k × IsMarked marked k × (row_of now k ≡ row_of was at ++ k ∷ []))
