use Rattle.std.proofs.Common.{take}
use Rattle.il_core.specs.LineGraph.{IsIn}
use Rattle.control_flow.proofs.evidence.holds.Given as goal

abbrev pub invariant-loop-at : goal.invariant-loop-at
invariant-loop-at l = IsIn (take l.at-index l.row) l.line → ⊥
