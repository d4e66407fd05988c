-- Where walks meet sets of lines: a walk meets a set at its last line alone, and a line may stand on every walk to another.
use Rattle.std.specs.Prelude.{◌≡◌, ℕ, List, [], ◌∷◌}
use Rattle.il_core.specs.LineGraph.{IsIn}
use Rattle.flow_graph.specs.Search.{IsWalk}

-- the walk from line a along these lines meets the set P first at its last line, which is x
abbrev pub Meets : (ℕ → ℕ → Type 0) → (ℕ → Type 0) → ℕ → List ℕ → ℕ → Type 0
Meets E P a [] x = (a ≡ x) × P a
Meets E P a (b ∷ rest) x = (P a → ⊥) × E a b × Meets E P b rest x

-- some walk from line r meets the set P first at line x
abbrev pub IsMetAt : (ℕ → ℕ → Type 0) → ℕ → (ℕ → Type 0) → ℕ → Type 0
IsMetAt E r P x = (lines : List ℕ) × Meets E P r lines x

-- line h stands on every walk from line r to line u, whose ends count
abbrev pub IsOnEvery : (ℕ → ℕ → Type 0) → ℕ → ℕ → ℕ → Type 0
IsOnEvery E r h u = (lines : List ℕ) → IsWalk E r lines u → IsIn (r ∷ lines) h
