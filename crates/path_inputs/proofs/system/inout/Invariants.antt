use Rattle.std.proofs.Common.{◌≡◌, ◌++◌, drop}
use Rattle.il_core.specs.Run.{inout_from}
use Rattle.path_inputs.proofs.system.inout.Given as goal

-- those so far before those of the rest are all
abbrev pub invariant-loop-index : goal.invariant-loop-index
invariant-loop-index l = l.found.items ++ inout_from l.index (drop l.index l.places) ≡ inout_from 0 l.places
