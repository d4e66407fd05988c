use Rattle.std.proofs.Common.{◌≡◌, length}
use Rattle.info_flow.proofs.labels.own_labelled.Given as goal

abbrev pub invariant-loop-line : goal.invariant-loop-line
invariant-loop-line l = length l.marks.items ≡ length l.labels
