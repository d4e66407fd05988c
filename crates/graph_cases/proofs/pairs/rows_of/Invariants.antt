use Rattle.std.proofs.Common.{◌≡◌, ℕ, ◌<◌, length, replicate, []}
use Rattle.il_core.specs.LineGraph.{IsIn}
use Rattle.flow_graph.specs.Search.{row_of}
use Rattle.graph_cases.proofs.pairs.rows_of.Given as goal

abbrev pub invariant-loop-line : goal.invariant-loop-line
invariant-loop-line l = l.rows.items ≡ replicate l._line []

abbrev pub invariant-loop-tail : goal.invariant-loop-tail
invariant-loop-tail l = record {
  size : length l.rows.items ≡ l.count;
  below : (a k : ℕ) → IsIn (row_of l.rows.items a) k → k < l.count;
  simple : (k : ℕ) → IsIn (row_of l.rows.items k) k → ⊥;
}
