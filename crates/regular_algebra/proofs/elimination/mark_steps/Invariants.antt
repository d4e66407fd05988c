use Rattle.std.proofs.Common.{◌≡◌, length}
use Rattle.regular_algebra.specs.Run.{UsesAreMarked}
use Rattle.regular_algebra.proofs.elimination.mark_steps.Given as goal

-- the uses of the first k steps are marked
abbrev pub invariant-loop-k : goal.invariant-loop-k
invariant-loop-k l = record { size : length l.last ≡ length l.steps; used : UsesAreMarked l.first l.steps l.k l.last }
