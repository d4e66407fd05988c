use Rattle.std.proofs.Common.{◌≡◌, ℕ, ◌↔◌, length, take}
use Rattle.il_core.specs.LineGraph.{IsIn}
use Rattle.flow_graph.specs.Search.{IsMarked}
use Rattle.control_flow.proofs.evidence.marks_of.Given as goal

abbrev pub invariant-loop-line : goal.invariant-loop-line
invariant-loop-line l = record {
  size : length l.marks.items ≡ l.fn.count;
  exact : (k : ℕ) → IsMarked l.marks.items k ↔ IsIn (take l.line-index l.lines) k;
}
