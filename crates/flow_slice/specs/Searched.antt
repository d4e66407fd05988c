-- What searches tell of a graph whatever the variable: which lines are reachable, and from which lines arcs lead to each line.
use Rattle.std.specs.Prelude.{◌≡◌, ◌↔◌, ℕ, Bool, List, length}
use Rattle.flow_graph.specs.declared.graph.FlowGraph.{FlowGraph}
use Rattle.flow_graph.specs.Graph.{tails_into}
use Rattle.flow_graph.specs.Reached.{IsReached}
use Rattle.flow_graph.specs.Search.{IsMarked, row_of}

-- a mark for each line, which is set where a path from line 0 comes to it
pub record AreReached (g : FlowGraph) (reached : List Bool) : Type 0 where
  pub size : length reached ≡ length g.nodes
  pub exact : (k : ℕ) → IsMarked reached k ↔ IsReached g.arcs k

-- a row for each line, with the lines that arcs into it leave
pub record AreTails (g : FlowGraph) (before : List (List ℕ)) : Type 0 where
  pub size : length before ≡ length g.nodes
  pub each : (k : ℕ) → row_of before k ≡ tails_into g.arcs k
