-- Nodes that are added one behind the other, and the decisions that stand from a node on.
use Rattle.std.specs.Prelude.{◌≡◌, ℕ, zero, suc, ◌<◌, ◌≤◌, List, [], ◌∷◌, ◌++◌, length, slice_get, Some}
use Rattle.il_core.specs.declared.line.Next.{Next}
use Rattle.il_core.specs.declared.line.Next.TheVariants.{At, Halted}
use Rattle.il_core.specs.Procedure.{Procedure}
use Rattle.test_graph.specs.Decision.{Decision, decision_at}
use Rattle.test_graph.specs.declared.graph.TestNode.TheVariants.{AtLine}
use Rattle.test_graph.specs.Lowered.{Unfolds, NamesLower}
use Rattle.test_graph.specs.declared.graph.TestNode.{TestNode}

-- the old nodes stand at their numbers; more may follow
pub record Grows (old new : List TestNode) : Type 0 where
  pub longer : length old ≤ length new
  pub kept : (id : ℕ) (node : TestNode) → slice_get old id ≡ Some node → slice_get new id ≡ Some node

-- each test and each assignment names nodes with lower numbers
pub record Fall (nodes : List TestNode) : Type 0 where
  pub each : (id : ℕ) (node : TestNode) → slice_get nodes id ≡ Some node → NamesLower id node

-- from a node on stand exactly these decisions
pub record Stands (entries : List ℕ) (nodes : List TestNode) (id : ℕ) (d : Decision) : Type 0 where
  pub unfolds : Unfolds nodes entries id d

-- each of the first lines has the node of its own number
pub record AreOwn (count : ℕ) (entries : List ℕ) : Type 0 where
  pub each : (pc : ℕ) → pc < count → slice_get entries pc ≡ Some pc

-- the next line is one of the first lines
abbrev pub IsInside : ℕ → Next → Type 0
IsInside count (At q) = q < count
IsInside count (Halted h) = Unit {0}

-- the first nodes are those of the lines
pub record AreLines (count : ℕ) (nodes : List TestNode) : Type 0 where
  pub long : count ≤ length nodes
  pub each : (pc : ℕ) → pc < count → (first : ℕ) × (slice_get nodes pc ≡ Some (AtLine pc first))

-- the decisions of each line below pc stand behind the line's node
pub record AreLowered (p : Procedure) (count pc : ℕ) (nodes : List TestNode) : Type 0 where
  pub lines : AreLines count nodes
  pub falls : Fall nodes
  pub each : (k : ℕ) → k < pc → (first : ℕ) × (slice_get nodes k ≡ Some (AtLine k first)) × ((entries : List ℕ) → AreOwn count entries → Stands entries nodes first (decision_at p k))

-- the nodes of the first lines, of which none is lowered yet
abbrev pub begun : ℕ → List TestNode
begun zero = []
begun (suc n) = begun n ++ AtLine n n ∷ []

-- the first numbers in order
abbrev pub numbers : ℕ → List ℕ
numbers zero = []
numbers (suc n) = numbers n ++ n ∷ []
