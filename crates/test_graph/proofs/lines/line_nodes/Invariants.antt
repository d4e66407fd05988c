use Rattle.std.proofs.Common.{◌≡◌}
use Rattle.test_graph.specs.Standing.{begun}
use Rattle.test_graph.proofs.lines.line_nodes.Given as goal

-- the nodes of the lines so far
abbrev pub invariant-loop-pc : goal.invariant-loop-pc
invariant-loop-pc l = l.nodes.items ≡ begun l.pc
