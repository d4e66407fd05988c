use Rattle.std.proofs.Common.{◌≡◌, ◌+◌, ◌++◌, take}
use Rattle.std.specs.Prelude.{filter, nat_eq, not}
use Rattle.std.specs.List.{flat_map}
use Rattle.interval_reduce.specs.Derivation.{taken}
use Rattle.interval_reduce.proofs.derivation.add_level.Given as goal

abbrev pub invariant-loop-interval : goal.invariant-loop-interval
invariant-loop-interval l = l.order ≡ l.initial.order ++ filter (λ v. not (nat_eq (v + 1) (l.last + 1))) (flat_map taken (take l.interval-index l.level))
