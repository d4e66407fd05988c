-- A route is an arc of a reachable line, or leads from such a line to a node behind all lines: walks may end on any line, or on the last.
use Rattle.std.specs.Prelude.{◌≡◌, ◌⊎◌, ◌+◌, length}
use Rattle.il_core.specs.LineGraph.{IsIn}
use Rattle.flow_graph.specs.Reached.{IsReached}
use Rattle.flow_graph.specs.declared.graph.Arc.{Arc}
use Rattle.flow_graph.specs.declared.graph.FlowGraph.{FlowGraph}

-- an arc out of the lines: to the node behind them, and from the last line to the node behind that
abbrev pub IsExit : FlowGraph → Arc → Type 0
IsExit g a = (a.head ≡ length g.nodes) ⊎ ((a.head ≡ length g.nodes + 1) × (a.tail + 1 ≡ length g.nodes))

abbrev pub IsRoute : FlowGraph → Arc → Type 0
IsRoute g a = IsReached g.arcs a.tail × (IsIn g.arcs a ⊎ IsExit g a)
