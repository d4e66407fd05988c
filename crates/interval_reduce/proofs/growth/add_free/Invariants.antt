use Rattle.std.proofs.Common.{◌⊎◌, ℕ, take}
use Rattle.std.specs.Prelude.{◌↔◌}
use Rattle.il_core.specs.LineGraph.{IsIn}
use Rattle.flow_graph.specs.Search.{IsUnmarked}
use Rattle.interval_reduce.proofs.growth.add_free.Given as goal

abbrev pub invariant-loop-node : goal.invariant-loop-node
invariant-loop-node l = (v : ℕ) → IsIn l.nodes.items v ↔ (IsIn l.initial.nodes.items v ⊎ (IsIn (take l.node-index l.row) v × IsUnmarked l.taken v))
