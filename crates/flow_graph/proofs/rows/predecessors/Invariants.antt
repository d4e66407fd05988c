use Rattle.std.proofs.Common.{◌≡◌, ℕ, length, take}
use Rattle.flow_graph.specs.Graph.{tails_into}
use Rattle.flow_graph.specs.Search.{row_of}
use Rattle.flow_graph.proofs.rows.predecessors.Given as goal

abbrev pub invariant-loop-arc : goal.invariant-loop-arc
invariant-loop-arc l = record {
  size : length l.rows.items ≡ length l.graph.nodes;
  rows : (k : ℕ) → row_of l.rows.items k ≡ tails_into (take l.arc-index l.graph.arcs) k;
}
