use Rattle.std.proofs.Common.{◌≡◌, length}
use Rattle.info_flow.proofs.labels.labelled.Given as goal

abbrev pub invariant-loop-pass : goal.invariant-loop-pass
invariant-loop-pass l = length l.labels.items ≡ length l.rows
