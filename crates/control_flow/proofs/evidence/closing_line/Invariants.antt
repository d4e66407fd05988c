use Rattle.std.proofs.Common.{◌≢◌, ℕ, ◌<◌, []}
use Rattle.il_core.specs.LineGraph.{IsIn}
use Rattle.flow_graph.specs.Search.{row_of}
use Rattle.control_flow.proofs.evidence.closing_line.Given as goal

abbrev pub invariant-loop-at : goal.invariant-loop-at
invariant-loop-at l = (k : ℕ) → k < l.at → row_of l.paths k ≢ [] → IsIn (row_of l.rows k) l.line → ⊥
