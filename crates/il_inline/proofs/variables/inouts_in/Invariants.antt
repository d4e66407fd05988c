use Rattle.std.proofs.Common.{◌≡◌, ◌++◌, drop}
use Rattle.il_core.specs.Run.{inout_from}
use Rattle.il_inline.proofs.variables.inouts_in.Given as goal

-- those so far before those of the rest are all
abbrev pub invariant-loop-number : goal.invariant-loop-number
invariant-loop-number l = l.found.items ++ inout_from l.number (drop l.number l.places) ≡ inout_from 0 l.places
