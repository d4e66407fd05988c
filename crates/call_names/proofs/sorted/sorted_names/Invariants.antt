use Rattle.std.proofs.Common.{◌≡◌, take}
use Rattle.call_names.specs.Sorted.{names_of}
use Rattle.call_names.proofs.sorted.sorted_names.Given as goal

abbrev pub invariant-loop-variable : goal.invariant-loop-variable
invariant-loop-variable l = l.names.items ≡ names_of (take l.variable-index l.variables)
