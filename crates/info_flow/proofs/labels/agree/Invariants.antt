use Rattle.std.proofs.Common.{take}
use Rattle.info_flow.specs.Labels.{Agree}
use Rattle.info_flow.proofs.labels.agree.Given as goal

abbrev pub invariant-loop-line : goal.invariant-loop-line
invariant-loop-line l = Agree (take l.line-index l.row) l.labels l.label
