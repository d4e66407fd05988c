-- The lines that are relevant to the final value of a variable, and the places that each line needs for it: the least sets closed under five rules.
use Rattle.std.specs.Prelude.{◌≡◌, ℕ, ◌+◌, Bool, true, Some, List, length, slice_get}
use Rattle.std.specs.Int.{bit_at}
use Rattle.flow_graph.specs.declared.graph.NodeKind.TheVariants.{Test}
use Rattle.flow_graph.specs.declared.graph.Node.{Node}
use Rattle.flow_graph.specs.declared.graph.FlowGraph.{FlowGraph}
use Rattle.flow_graph.specs.Graph.{Joins}
use Rattle.disjoint_paths.specs.Pair.{HasPair}

-- line k assigns place p
abbrev pub Assigns : List Node → ℕ → ℕ → Type 0
Assigns nodes k p = (n : Node) × (slice_get nodes k ≡ Some n) × (n.writes ≡ Some p)

-- line k, an assignment or a test, reads place p
abbrev pub ReadsPlace : List Node → ℕ → ℕ → Type 0
ReadsPlace nodes k p = (n : Node) × (slice_get nodes k ≡ Some n) × (bit_at n.reads p ≡ 1)

-- line k is a test
abbrev pub IsTest : List Node → ℕ → Type 0
IsTest nodes k = (n : Node) × (slice_get nodes k ≡ Some n) × (n.kind ≡ Test)

-- sets of relevant lines and of needed places that are closed for variable v: the last line is relevant and needs v; an
-- assignment is relevant where a line behind it needs its target; a relevant line needs what it reads; a line needs what
-- a line behind it needs and it does not assign; a test is relevant where two paths to relevant lines share it alone
pub record IsClosed (g : FlowGraph) (v : ℕ) (relevant : ℕ → Bool) (needs : ℕ → ℕ → Bool) : Type 0 where
  pub last : (k : ℕ) → k + 1 ≡ length g.nodes → (relevant k ≡ true) × (needs k v ≡ true)
  pub assigned : (k h p : ℕ) → Assigns g.nodes k p → Joins g.arcs k h → needs h p ≡ true → relevant k ≡ true
  pub read : (k p : ℕ) → relevant k ≡ true → ReadsPlace g.nodes k p → needs k p ≡ true
  pub kept : (k h p : ℕ) → Joins g.arcs k h → needs h p ≡ true → (Assigns g.nodes k p → ⊥) → needs k p ≡ true
  pub tested : (k : ℕ) → IsTest g.nodes k → HasPair (Joins g.arcs) (λ x. relevant x ≡ true) k → relevant k ≡ true

-- the least of these sets
pub record IsLeastClosed (g : FlowGraph) (v : ℕ) (relevant : ℕ → Bool) (needs : ℕ → ℕ → Bool) : Type 0 where
  pub closed : IsClosed g v relevant needs
  pub least_lines : (lines : ℕ → Bool) (places : ℕ → ℕ → Bool) → IsClosed g v lines places → (k : ℕ) → relevant k ≡ true → lines k ≡ true
  pub least_places : (lines : ℕ → Bool) (places : ℕ → ℕ → Bool) → IsClosed g v lines places → (k p : ℕ) → needs k p ≡ true → places k p ≡ true
