use Rattle.difference.specs.Rounds.{IsReady}
use Rattle.difference.proofs.Sweeps.{IsSwept}
use Rattle.difference.proofs.rounds.sweep.Given as goal

abbrev pub invariant-loop-place : goal.invariant-loop-place
invariant-loop-place l = record {
  ready : IsReady l.ranges l.constraints l.table.count l.board;
  swept : IsSwept l.ranges l.initial.board l.board l.changed l.place;
}
