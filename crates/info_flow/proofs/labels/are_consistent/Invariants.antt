use Rattle.std.proofs.Common.{ℕ, ◌<◌}
use Rattle.flow_graph.specs.Search.{row_of}
use Rattle.info_flow.specs.Labels.{IsConsistent}
use Rattle.info_flow.proofs.labels.are_consistent.Given as goal

abbrev pub invariant-loop-line : goal.invariant-loop-line
invariant-loop-line l = (k : ℕ) → k < l.line → IsConsistent (row_of l.rows k) l.marks l.labels k
