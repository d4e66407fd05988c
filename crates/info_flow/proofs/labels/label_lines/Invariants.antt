use Rattle.std.proofs.Common.{◌≡◌, length}
use Rattle.info_flow.proofs.labels.label_lines.Given as goal

abbrev pub invariant-loop-line : goal.invariant-loop-line
invariant-loop-line l = length l.labels.items ≡ length l.rows
