use Rattle.std.proofs.Common.{◌≡◌, length}
use Rattle.graph_cases.proofs.pairs.marks_of.Given as goal

abbrev pub invariant-loop-line : goal.invariant-loop-line
invariant-loop-line l = length l.marks.items ≡ l.line
