use Rattle.std.proofs.Common.{◌+◌, drop}
use Rattle.il_types.specs.Names.{entries_from}
use Rattle.il_types.proofs.Declaring.{IsFar}
use Rattle.il_types.proofs.names.Names.declare_values.Given as goal

abbrev pub invariant-loop-k : goal.invariant-loop-k
invariant-loop-k l = IsFar l.fn.self (entries_from 0 l.at 1 l.values) l.self (entries_from 0 l.at (l.k + 1) (drop l.k l.values))
