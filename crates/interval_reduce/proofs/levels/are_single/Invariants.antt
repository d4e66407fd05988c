use Rattle.std.proofs.Common.{take}
use Rattle.interval_reduce.specs.Level.{AreSingle}
use Rattle.interval_reduce.proofs.levels.are_single.Given as goal

abbrev pub invariant-loop-interval : goal.invariant-loop-interval
invariant-loop-interval l = AreSingle (take l.interval-index l.level)
