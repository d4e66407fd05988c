use Rattle.std.proofs.Common.{◌≡◌, ℕ, ◌<◌, ◌≤◌, ◌↔◌, length}
use Rattle.flow_graph.specs.Search.{IsMarked}
use Rattle.control_flow.proofs.marks.marks_between.Given as goal

abbrev pub invariant-loop-at : goal.invariant-loop-at
invariant-loop-at l = record {
  size : length l.marks.items ≡ l.at;
  exact : (k : ℕ) → IsMarked l.marks.items k ↔ ((l.from ≤ k) × (k < l.to) × (k < l.at));
}
