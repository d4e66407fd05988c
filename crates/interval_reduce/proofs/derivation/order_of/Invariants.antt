use Rattle.std.proofs.Common.{◌≡◌, ◌+◌, take}
use Rattle.interval_reduce.specs.Derivation.{order_of}
use Rattle.interval_reduce.proofs.derivation.order_of.Given as goal

abbrev pub invariant-loop-level : goal.invariant-loop-level
invariant-loop-level l = l.order ≡ order_of (l.last + 1) (take l.level-index l.levels)
