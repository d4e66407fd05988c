use Rattle.std.proofs.Common.{◌≡◌}
use Rattle.test_graph.specs.Standing.{numbers}
use Rattle.test_graph.proofs.lines.line_entries.Given as goal

-- the numbers of the lines so far
abbrev pub invariant-loop-pc : goal.invariant-loop-pc
invariant-loop-pc l = l.entries.items ≡ numbers l.pc
