use Rattle.std.proofs.Common.{ℕ, vec_len}
use Rattle.disjoint_paths.specs.Descent.{IsDescent, IsFanAt}
use Rattle.disjoint_paths.proofs.fan.fan_of.Given as goal

abbrev pub invariant-loop-number : goal.invariant-loop-number
invariant-loop-number l = (b : ℕ) × IsDescent l.opened l.numbers.items l.at b × IsFanAt l.asked l.opened b l.fan

abbrev pub decreases-loop-number : goal.decreases-loop-number
decreases-loop-number l = vec_len l.numbers
