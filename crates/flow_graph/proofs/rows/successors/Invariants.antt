use Rattle.std.proofs.Common.{◌≡◌, ℕ, length, take}
use Rattle.flow_graph.specs.Graph.{heads_from}
use Rattle.flow_graph.specs.Search.{row_of}
use Rattle.flow_graph.proofs.rows.successors.Given as goal

abbrev pub invariant-loop-arc : goal.invariant-loop-arc
invariant-loop-arc l = record {
  size : length l.rows.items ≡ length l.graph.nodes;
  rows : (k : ℕ) → row_of l.rows.items k ≡ heads_from (take l.arc-index l.graph.arcs) k;
}
