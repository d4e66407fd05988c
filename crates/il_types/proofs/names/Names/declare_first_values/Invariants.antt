use Rattle.std.proofs.Common.{take}
use Rattle.il_types.specs.Names.{entries_from, GoesOn}
use Rattle.il_types.proofs.names.Names.declare_first_values.Given as goal

abbrev pub invariant-loop-k : goal.invariant-loop-k
invariant-loop-k l = GoesOn l.fn.self l.self (entries_from 0 l.at 1 (take l.k l.values))
