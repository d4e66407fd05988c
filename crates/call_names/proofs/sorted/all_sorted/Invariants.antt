use Rattle.std.proofs.Common.{take}
use Rattle.call_names.specs.Sorted.{AreAllSorted}
use Rattle.call_names.proofs.sorted.all_sorted.Given as goal

abbrev pub invariant-loop-outline : goal.invariant-loop-outline
invariant-loop-outline l = AreAllSorted (take l.outline-index l.outlines) l.all.items
