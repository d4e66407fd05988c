use Rattle.std.proofs.Common.{◌≡◌, ◌++◌, drop}
use Rattle.data_use.specs.Facts.{variables_from}
use Rattle.data_use.proofs.report.variables.Given as goal

-- the first places are looked at
abbrev pub invariant-loop-number : goal.invariant-loop-number
invariant-loop-number l = l.variables.items ++ variables_from l.number (drop l.number l.places) ≡ variables_from 0 l.places
