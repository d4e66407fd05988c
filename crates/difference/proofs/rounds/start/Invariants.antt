use Rattle.std.proofs.Common.{◌≡◌, true, replicate}
use Rattle.difference.proofs.Settling.{IsBegun}
use Rattle.difference.proofs.rounds.start.Given as goal

abbrev pub invariant-loop-node : goal.invariant-loop-node
invariant-loop-node l = record {
  begun : IsBegun l.ranges l.constraints l.values.items l.chains.items l.node;
  pending : l.pending.items ≡ replicate l.node true;
}
