-- The lines that a path from line 0 reaches, and the orders of those inside: each but line 0 and the last, exactly once.
use Rattle.std.specs.Prelude.{◌≢◌, ◌↔◌, ℕ, ◌+◌, List, [], ◌∷◌, length}
use Rattle.std.specs.List.Sorted.{IsStrictlyIncreasing}
use Rattle.il_core.specs.LineGraph.{IsIn}
use Rattle.flow_graph.specs.Graph.{Joins}
use Rattle.flow_graph.specs.Search.{Reaches}
use Rattle.flow_graph.specs.declared.graph.Arc.{Arc}
use Rattle.flow_graph.specs.declared.graph.FlowGraph.{FlowGraph}

-- some path from line 0 ends at line k
abbrev pub IsReached : List Arc → ℕ → Type 0
IsReached arcs k = Reaches (Joins arcs) 0 k

-- no line stands twice
abbrev pub Differ : List ℕ → Type 0
Differ [] = Unit {0}
Differ (x ∷ xs) = (IsIn xs x → ⊥) × Differ xs

-- a reachable line that is neither line 0 nor the last
abbrev pub IsInner : FlowGraph → ℕ → Type 0
IsInner g k = IsReached g.arcs k × (k ≢ 0) × (k + 1 ≢ length g.nodes)

-- the order has each inner line exactly once, and no other line
pub record IsInnerOrder (g : FlowGraph) (order : List ℕ) : Type 0 where
  pub once : Differ order
  pub exact : (k : ℕ) → IsIn order k ↔ IsInner g k

-- the list has exactly the lines with a property, ascending
pub record Lists (P : ℕ → Type 0) (lines : List ℕ) : Type 0 where
  pub ascending : IsStrictlyIncreasing lines
  pub exact : (k : ℕ) → IsIn lines k ↔ P k
