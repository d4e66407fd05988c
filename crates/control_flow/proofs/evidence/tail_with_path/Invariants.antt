use Rattle.std.proofs.Common.{◌≢◌, ℕ, [], take}
use Rattle.il_core.specs.LineGraph.{IsIn}
use Rattle.flow_graph.specs.Search.{row_of}
use Rattle.control_flow.proofs.evidence.tail_with_path.Given as goal

abbrev pub invariant-loop-tail : goal.invariant-loop-tail
invariant-loop-tail l = (u : ℕ) → IsIn (take l.tail-index l.row) u → row_of l.paths u ≢ [] → ⊥
