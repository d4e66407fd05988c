-- A graph of tests and assignments in which each line's decisions stand as nodes.
use Rattle.std.specs.Prelude.{◌≡◌, ℕ, ◌<◌, Option, Some, None, List, length, slice_get}
use Rattle.il_core.specs.Procedure.{Procedure}
use Rattle.il_core.specs.declared.line.Next.{Next}
use Rattle.il_core.specs.declared.line.Next.TheVariants.{At, Halted}
use Rattle.sym_terms.specs.Tree.{tree_of}
use Rattle.sym_terms.specs.Comparison.{comparison_of}
use Rattle.sym_terms.specs.declared.term.Term.{Term}
use Rattle.sym_terms.specs.declared.term.Literal.{Literal}
use Rattle.test_graph.specs.Decision.{Change, Decision, ask, done, decision_at}
use Rattle.test_graph.specs.declared.graph.TestNode.{TestNode}
use Rattle.test_graph.specs.declared.graph.TestNode.TheVariants.{Test, Assign, AtLine, Stop}
use Rattle.test_graph.specs.declared.graph.TestGraph.{TestGraph}

-- at the end stands the node of the next line, or a halt
abbrev pub LeadsTo : List TestNode → List ℕ → ℕ → Next → Type 0
LeadsTo nodes entries id (At q) = slice_get entries q ≡ Some id
LeadsTo nodes entries id (Halted h) = slice_get nodes id ≡ Some (Stop h)

-- an assignment's node, where there is one, and then the end
abbrev pub Changes : List TestNode → List ℕ → ℕ → Option Change → Next → Type 0
Changes nodes entries id None next = LeadsTo nodes entries id next
Changes nodes entries id (Some c) next = (term : Term) × (then : ℕ) × (slice_get nodes id ≡ Some (Assign c.place term then)) × (tree_of term ≡ c.term)
    × LeadsTo nodes entries then next

-- from node id on stand exactly these decisions
abbrev pub Unfolds : List TestNode → List ℕ → ℕ → Decision → Type 0
Unfolds nodes entries id (ask c met unmet) = (literal : Literal) × (first : ℕ) × (second : ℕ) × (slice_get nodes id ≡ Some (Test literal first second))
    × (comparison_of literal ≡ c) × Unfolds nodes entries first met × Unfolds nodes entries second unmet
Unfolds nodes entries id (done change next) = Changes nodes entries id change next

-- the node that stands for a line, followed by the line's decisions
pub record IsEntry (p : Procedure) (g : TestGraph) (pc : ℕ) : Type 0 where
  pub entry : ℕ
  pub first : ℕ
  pub there : slice_get g.entries pc ≡ Some entry
  pub line : slice_get g.nodes entry ≡ Some (AtLine pc first)
  pub unfolds : Unfolds g.nodes g.entries first (decision_at p pc)

-- a test and an assignment name only nodes with lower numbers
abbrev pub NamesLower : ℕ → TestNode → Type 0
NamesLower id (Test literal met unmet) = (met < id) × (unmet < id)
NamesLower id (Assign place term then) = then < id
NamesLower id (AtLine pc first) = Unit {0}
NamesLower id (Stop h) = Unit {0}

pub record IsLowered (p : Procedure) (g : TestGraph) : Type 0 where
  pub lines : length g.entries ≡ length p.lines
  pub each : (pc : ℕ) → pc < length p.lines → IsEntry p g pc
  pub falls : (id : ℕ) (node : TestNode) → slice_get g.nodes id ≡ Some node → NamesLower id node
