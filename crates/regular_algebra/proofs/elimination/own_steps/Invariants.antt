use Rattle.std.proofs.Common.{◌≡◌, vec_len}
use Rattle.regular_algebra.proofs.elimination.own_steps.Given as goal

abbrev pub invariant-loop-k : goal.invariant-loop-k
invariant-loop-k l = vec_len l.own ≡ l.k
