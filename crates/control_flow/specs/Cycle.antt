-- A cycle is twice entered where two walks from the first line meet it first at different lines; a graph is reducible where no cycle is.
use Rattle.std.specs.Prelude.{◌≡◌, ◌≢◌, ℕ, ◌<◌, List, [], ◌∷◌, ◌++◌}
use Rattle.il_core.specs.LineGraph.{IsIn}
use Rattle.flow_graph.specs.Search.{IsWalk}
use Rattle.flow_graph.specs.Meeting.{Meets, IsMetAt}
use Rattle.flow_graph.specs.Reached.{Differ}

-- walks from line r meet these lines first at two different lines
abbrev pub IsTwiceEntered : (ℕ → ℕ → Type 0) → ℕ → List ℕ → Type 0
IsTwiceEntered E r cycle = (x : ℕ) × (y : ℕ) × IsMetAt E r (IsIn cycle) x × IsMetAt E r (IsIn cycle) y × (x ≢ y)

-- some closed walk of at least one arc, from line a over line b and the others back to line a, is twice entered
abbrev pub HasTwiceEntered : (ℕ → ℕ → Type 0) → ℕ → Type 0
HasTwiceEntered E r = (a : ℕ) × (b : ℕ) × (lines : List ℕ) × IsWalk E a (b ∷ lines) a × IsTwiceEntered E r (a ∷ b ∷ lines)

abbrev pub IsReducible : (ℕ → ℕ → Type 0) → ℕ → Type 0
IsReducible E r = HasTwiceEntered E r → ⊥

-- the lines of a cycle, each once, the least of them first
abbrev pub IsCycle : (ℕ → ℕ → Type 0) → List ℕ → Type 0
IsCycle E [] = ⊥
IsCycle E (a ∷ rest) = IsWalk E a (rest ++ a ∷ []) a × Differ (a ∷ rest) × ((k : ℕ) → IsIn rest k → a < k)

-- the lines of a path from line r, each once, that meets the cycle at its last line alone, which is x
abbrev pub IsEntry : (ℕ → ℕ → Type 0) → ℕ → List ℕ → List ℕ → ℕ → Type 0
IsEntry E r cycle [] x = ⊥
IsEntry E r cycle (a ∷ rest) x = (a ≡ r) × Differ (a ∷ rest) × Meets E (IsIn cycle) a rest x

-- a cycle with a path to each of two of its lines, that of the first path less than that of the second
pub record ShowsTwoEntries (E : ℕ → ℕ → Type 0) (r : ℕ) (cycle first second : List ℕ) : Type 0 where
  pub is_cycle : IsCycle E cycle
  pub x : ℕ
  pub y : ℕ
  pub at_x : IsEntry E r cycle first x
  pub at_y : IsEntry E r cycle second y
  pub differ : x < y
