-- Where no cycle is twice entered, every closed walk of reachable lines holds a loop head.
use Rattle.std.specs.Prelude.{ℕ, List, ◌∷◌}
use Rattle.il_core.specs.LineGraph.{IsIn}
use Rattle.flow_graph.specs.Graph.{Joins}
use Rattle.flow_graph.specs.Search.{IsWalk}
use Rattle.flow_graph.specs.Reached.{IsReached}
use Rattle.flow_graph.specs.declared.graph.Arc.{Arc}
use Rattle.control_flow.specs.Cycle.{IsReducible}
use Rattle.control_flow.specs.Loop.{IsHead}

abbrev pub ReducibleCyclesHoldAHead : Type 0
ReducibleCyclesHoldAHead = (arcs : List Arc) (a b : ℕ) (lines : List ℕ) → IsReducible (Joins arcs) 0 → IsReached arcs a → IsWalk (Joins arcs) a (b ∷ lines) a
    → (h : ℕ) × IsIn (a ∷ b ∷ lines) h × IsHead arcs h
