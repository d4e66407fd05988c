use Rattle.std.proofs.Common.{◌<◌, length}
use Rattle.disjoint_paths.specs.Descent.{IsDescent}
use Rattle.disjoint_paths.proofs.fan.descent.Given as goal

abbrev pub invariant-loop-before : goal.invariant-loop-before
invariant-loop-before l = record {
  known : l.number < length l.opened;
  linked : IsDescent l.opened l.numbers.items l.at l.number;
}

abbrev pub decreases-loop-before : goal.decreases-loop-before
decreases-loop-before l = l.number
