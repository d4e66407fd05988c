use Rattle.std.proofs.Common.{◌≡◌, ℕ, length}
use Rattle.flow_graph.specs.Search.{IsMarked}
use Rattle.control_flow.specs.Forward.{IsReachedBelow}
use Rattle.control_flow.proofs.ascending.low_lines.Given as goal

abbrev pub invariant-loop-line : goal.invariant-loop-line
invariant-loop-line l = record {
  size : length l.marks.items ≡ l.line;
  low : (k : ℕ) → IsMarked l.marks.items k → IsReachedBelow l.graph.arcs k;
}
