use Rattle.std.proofs.Common.{◌≡◌, ◌+◌, ◌++◌, drop}
use Rattle.path_inputs.specs.Bounding.{equal_from}
use Rattle.path_inputs.proofs.system.equal_from.Given as goal

-- those so far before those of the rest are all
abbrev pub invariant-loop-index : goal.invariant-loop-index
invariant-loop-index l = l.constraints.items ++ equal_from (l.fn.first + l.index) (drop l.index l.variables) ≡ equal_from l.fn.first l.variables
