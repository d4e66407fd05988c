use Rattle.std.proofs.Common.{◌<◌}
use Rattle.flow_graph.specs.Search.{IsMarked}
use Rattle.flow_graph.specs.Reached.{Lists}
use Rattle.control_flow.proofs.marks.marked_lines.Given as goal

abbrev pub invariant-loop-at : goal.invariant-loop-at
invariant-loop-at l = Lists (λ k. IsMarked l.marks k × (k < l.at)) l.lines
