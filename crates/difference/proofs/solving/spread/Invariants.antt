use Rattle.std.proofs.Common.{length}
use Rattle.difference.specs.Solving.{Keeps, MetIn}
use Rattle.difference.proofs.Lifts.{IsMoved}
use Rattle.difference.proofs.solving.spread.Given as goal

abbrev pub invariant-loop-arc : goal.invariant-loop-arc
invariant-loop-arc l = record {
  keeps : Keeps l.ranges l.constraints l.initial.board l.board;
  moved : IsMoved l.ranges l.constraints l.initial.board l.board l.changed;
  met : MetIn (length l.ranges) l.constraints l.bucket l.arc-index l.board;
}
