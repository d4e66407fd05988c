use Rattle.std.proofs.Common.{◌≡◌, ℕ, length, take}
use Rattle.il_core.specs.LineGraph.{IsIn}
use Rattle.flow_graph.specs.Search.{IsMarked}
use Rattle.interval_reduce.proofs.growth.unmark.Given as goal

abbrev pub invariant-loop-node : goal.invariant-loop-node
invariant-loop-node l = record {
  size : length l.marks.items ≡ length l.initial.marks.items;
  unmarked : (v : ℕ) → IsMarked l.marks.items v → IsMarked l.initial.marks.items v × (IsIn (take l.node-index l.nodes) v → ⊥);
}
