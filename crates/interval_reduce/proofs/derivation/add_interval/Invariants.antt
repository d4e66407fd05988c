use Rattle.std.proofs.Common.{◌≡◌, ◌+◌, ◌++◌, take}
use Rattle.std.specs.Prelude.{filter, nat_eq, not}
use Rattle.interval_reduce.specs.Derivation.{taken}
use Rattle.interval_reduce.proofs.derivation.add_interval.Given as goal

abbrev pub invariant-loop-node : goal.invariant-loop-node
invariant-loop-node l = l.order ≡ l.initial.order ++ filter (λ v. not (nat_eq (v + 1) (l.last + 1))) (take l.node-index (taken l.interval))
