-- The arcs of a level: they spread from node 0, and those of the next level go from owner to owner.
use Rattle.std.specs.Prelude.{◌≡◌, ◌≢◌, ℕ, ◌<◌, List, [], ◌∷◌}
use Rattle.flow_graph.specs.declared.graph.Arc.{Arc}
use Rattle.flow_graph.specs.Graph.{Joins}
use Rattle.flow_graph.specs.Search.{Reaches}
use Rattle.interval_reduce.specs.declared.interval.Interval.{Interval}
use Rattle.interval_reduce.specs.Level.{AreLevels}

-- an arc joins nodes below a limit
pub record IsBelow (n a b : ℕ) : Type 0 where
  pub tail : a < n
  pub head : b < n

abbrev pub StaysBelow : ℕ → List Arc → Type 0
StaysBelow n arcs = (a b : ℕ) → Joins arcs a b → IsBelow n a b

-- arcs between nodes below a limit, all of which leave nodes that are reached from node 0; none enters node 0 or its own tail
pub record AreSpread (n : ℕ) (arcs : List Arc) : Type 0 where
  pub some : 0 < n
  pub below : StaysBelow n arcs
  pub reached : (a b : ℕ) → Joins arcs a b → Reaches (Joins arcs) 0 a
  pub none_in : (a : ℕ) → Joins arcs a 0 → ⊥
  pub no_self : (a : ℕ) → Joins arcs a a → ⊥

-- an arc between nodes of different owners goes from one of owner a to one of owner b
abbrev pub IsCarried : (ℕ → ℕ) → List Arc → ℕ → ℕ → Type 0
IsCarried own arcs a b = (a ≢ b) × (u : ℕ) × (v : ℕ) × Joins arcs u v × (own u ≡ a) × (own v ≡ b)

-- levels, the first of which is that of a graph with these nodes and arcs
abbrev pub AreLevelsFrom : (ℕ → Type 0) → (ℕ → ℕ → Type 0) → List (List Interval) → Type 0
AreLevelsFrom N E [] = ⊥
AreLevelsFrom N E (level ∷ rest) = AreLevels N E level rest
