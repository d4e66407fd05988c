use Rattle.std.proofs.Common.{◌≡◌, ◌+◌, drop}
use Rattle.report.specs.Status.{are_settled_from}
use Rattle.report.proofs.status.are_settled.Given as goal

abbrev pub invariant-loop-at : goal.invariant-loop-at
invariant-loop-at l = are_settled_from l.rows 1 l.threats ≡ are_settled_from l.rows (l.at + 1) (drop l.at l.threats)
