use Rattle.std.proofs.Common.{◌≡◌, ℕ, length, take}
use Rattle.flow_graph.specs.Graph.{heads_from}
use Rattle.flow_graph.specs.Search.{row_of}
use Rattle.interval_reduce.proofs.arcs.head_rows.Given as goal

abbrev pub invariant-loop-arc : goal.invariant-loop-arc
invariant-loop-arc l = record {
  size : length l.rows.items ≡ l.count;
  rows : (k : ℕ) → row_of l.rows.items k ≡ heads_from (take l.arc-index l.arcs) k;
}
