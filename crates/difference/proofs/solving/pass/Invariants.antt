use Rattle.difference.specs.Solving.{Keeps}
use Rattle.difference.proofs.Lifts.{IsPassed}
use Rattle.difference.proofs.solving.pass.Given as goal

abbrev pub invariant-loop-index : goal.invariant-loop-index
invariant-loop-index l = record {
  keeps : Keeps l.ranges l.constraints l.initial.board l.board;
  passed : IsPassed l.ranges l.constraints l.initial.board l.board l.changed l.first l.index;
}
