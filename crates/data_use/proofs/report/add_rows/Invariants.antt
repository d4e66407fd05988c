use Rattle.std.proofs.Common.{take}
use Rattle.data_use.specs.Sums.{AddsRows}
use Rattle.data_use.proofs.report.add_rows.Given as goal

-- the first variables have their rows
abbrev pub invariant-loop-slot : goal.invariant-loop-slot
invariant-loop-slot l = AddsRows l.graph (take l.slot l.group) l.fn.rows.items l.rows.items
