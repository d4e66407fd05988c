-- The reduction theorem: the levels of a well formed graph end with one interval exactly where no cycle is twice entered, and where
-- none is the order has each inner line exactly once.
use Rattle.std.specs.Prelude.{◌≡◌, ◌↔◌}
use Rattle.flow_graph.specs.Graph.{IsWellFormed}
use Rattle.flow_graph.specs.declared.graph.FlowGraph.{FlowGraph}
use Rattle.control_flow.specs.Control.{IsShape}
use Rattle.control_flow.specs.declared.control.Shape.{Shape}
use Rattle.control_flow.specs.declared.control.Shape.TheVariants.{Reducible}
use Rattle.interval_reduce.specs.declared.interval.Derivation.{Derivation}
use Rattle.interval_reduce.specs.Derivation.{EndsInOne, IsDerivationOf, Reduces}

abbrev pub ReductionTheorem : Type 0
ReductionTheorem = (g : FlowGraph) (shape : Shape) (d : Derivation) → IsWellFormed g → IsShape g shape → IsDerivationOf g shape d → Reduces g shape d

-- the levels end with one interval exactly where the shape, which shows a cycle and two entries otherwise, is reducible
abbrev pub LevelsTellShape : Type 0
LevelsTellShape = (g : FlowGraph) (shape : Shape) (d : Derivation) → IsWellFormed g → IsShape g shape → IsDerivationOf g shape d
    → EndsInOne d.levels ↔ (shape ≡ Reducible)

-- no graph has two derivations
abbrev pub OneDerivation : Type 0
OneDerivation = (g : FlowGraph) (shape : Shape) (a b : Derivation) → IsDerivationOf g shape a → IsDerivationOf g shape b → a ≡ b
