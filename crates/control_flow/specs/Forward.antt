-- Rows of the lines behind and before a line, and arcs that go forward: some walk from line 0 comes to the tail without passing the head.
use Rattle.std.specs.Prelude.{◌≡◌, ◌≢◌, ◌↔◌, ℕ, ◌<◌, ◌≤◌, Bool, Some, List, [], ◌∷◌, length, slice_get}
use Rattle.il_core.specs.LineGraph.{IsIn}
use Rattle.flow_graph.specs.Graph.{Joins}
use Rattle.flow_graph.specs.Search.{IsWalk, IsMarked, IsUnmarked, row_of}
use Rattle.flow_graph.specs.Reached.{IsReached, Lists}
use Rattle.flow_graph.specs.declared.graph.Arc.{Arc}
use Rattle.flow_graph.specs.declared.graph.Node.{Node}
use Rattle.flow_graph.specs.declared.graph.FlowGraph.{FlowGraph}
use Rattle.control_flow.specs.Loop.{IsAssertion, IsHead}
use Rattle.control_flow.specs.Control.{IsUnreachable, IsLoop, heads_of}
use Rattle.control_flow.specs.declared.control.LoopInfo.{LoopInfo}

-- the row of each line has the lines that it goes to by a relation
pub record AreRows (count : ℕ) (E : ℕ → ℕ → Type 0) (rows : List (List ℕ)) : Type 0 where
  pub size : length rows ≡ count
  pub exact : (a b : ℕ) → IsIn (row_of rows a) b ↔ E a b

-- the rows of the lines behind each line
abbrev pub AreHeads : FlowGraph → List (List ℕ) → Type 0
AreHeads g = AreRows (length g.nodes) (Joins g.arcs)

-- the rows of the lines before each line
abbrev pub AreTails : FlowGraph → List (List ℕ) → Type 0
AreTails g = AreRows (length g.nodes) (λ a b. Joins g.arcs b a)

-- a walk from line 0 that does not pass line h ends at line k
abbrev pub IsReachedAround : List Arc → ℕ → ℕ → Type 0
IsReachedAround arcs h k = (lines : List ℕ) × IsWalk (Joins arcs) 0 lines k × (IsIn (0 ∷ lines) h → ⊥)

-- a walk from line 0 over lines that are not greater than line k ends at line k
abbrev pub IsReachedBelow : List Arc → ℕ → Type 0
IsReachedBelow arcs k = (lines : List ℕ) × IsWalk (Joins arcs) 0 lines k × ((j : ℕ) → IsIn (0 ∷ lines) j → j ≤ k)

-- an arc from line u to line v, where some walk from line 0 to u does not pass v
abbrev pub IsForward : List Arc → ℕ → ℕ → Type 0
IsForward arcs u v = Joins arcs u v × IsReachedAround arcs v u

-- the lines from one on to another are assertions
abbrev pub IsInRun : List Node → ℕ → ℕ → Type 0
IsInRun nodes start k = (start ≤ k) × ((j : ℕ) → start ≤ j → j ≤ k → IsAssertion nodes j)

-- the marks of the unreachable lines
pub record MarksUnreachable (g : FlowGraph) (marks : List Bool) : Type 0 where
  pub size : length marks ≡ length g.nodes
  pub exact : (k : ℕ) → IsMarked marks k ↔ IsUnreachable g k
  pub others : (k : ℕ) → k < length g.nodes → IsUnmarked marks k → IsReached g.arcs k

-- the loops of the heads below a line, by their heads
pub record AreLoopsBelow (g : FlowGraph) (n : ℕ) (loops : List LoopInfo) : Type 0 where
  pub heads : Lists (λ h. IsHead g.arcs h × (h < n)) (heads_of loops)
  pub each : (k : ℕ) (l : LoopInfo) → slice_get loops k ≡ Some l → IsLoop g l

-- line b is in the row of line a
abbrev pub InRow : List (List ℕ) → ℕ → ℕ → Type 0
InRow rows a b = IsIn (row_of rows a) b

-- a closed walk of at least one arc goes from line a over lines that are not less than a
abbrev pub ComesBack : List (List ℕ) → ℕ → Type 0
ComesBack rows a = (b : ℕ) × (lines : List ℕ) × IsWalk (InRow rows) a (b ∷ lines) a × ((j : ℕ) → IsIn (b ∷ lines) j → a ≤ j)

-- line k is marked, and entered from a line to which there is a path
abbrev pub IsEntered : List (List ℕ) → List Bool → List (List ℕ) → ℕ → Type 0
IsEntered tails marks paths k = IsMarked marks k × ((u : ℕ) × IsIn (row_of tails k) u × (row_of paths u ≢ []))
