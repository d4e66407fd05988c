use Rattle.std.proofs.Common.{take}
use Rattle.call_names.specs.Numbers.{AreNumbersBehind}
use Rattle.call_names.proofs.number.numbers_behind.Given as goal

abbrev pub invariant-loop-name : goal.invariant-loop-name
invariant-loop-name l = AreNumbersBehind l.stem (take l.name-index l.names) l.numbers.items
