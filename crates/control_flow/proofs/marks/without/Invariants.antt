use Rattle.std.proofs.Common.{◌≡◌, ℕ, ◌<◌, ◌↔◌, length}
use Rattle.flow_graph.specs.Search.{IsMarked, IsUnmarked}
use Rattle.control_flow.proofs.marks.without.Given as goal

abbrev pub invariant-loop-at : goal.invariant-loop-at
invariant-loop-at l = record {
  size : length l.marks.items ≡ l.at;
  exact : (k : ℕ) → IsMarked l.marks.items k ↔ (IsMarked l.first k × IsUnmarked l.second k × (k < l.at));
}
