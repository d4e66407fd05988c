use Rattle.std.proofs.Common.{length}
use Rattle.difference.specs.Rounds.{AreFiled}
use Rattle.difference.proofs.Sweeps.{AreEmpty}
use Rattle.difference.proofs.rounds.table_of.Given as goal

abbrev pub invariant-loop-range : goal.invariant-loop-range
invariant-loop-range l = AreEmpty l.buckets.items l._range-index

abbrev pub invariant-loop-index : goal.invariant-loop-index
invariant-loop-index l = AreFiled (length l.ranges) l.constraints l.index l.buckets.items
