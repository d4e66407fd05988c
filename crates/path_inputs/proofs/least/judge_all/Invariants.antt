use Rattle.std.proofs.Common.{◌≡◌, ◌<◌, ◌∷◌, ℕ, true, Some, slice_get}
use Rattle.difference.specs.declared.constraint.Split.{Split}
use Rattle.path_inputs.specs.Bounding.{IsJudged}
use Rattle.path_inputs.proofs.least.judge_all.Given as goal

-- those so far have a solution
abbrev pub invariant-loop-other : goal.invariant-loop-other
invariant-loop-other l = (j : ℕ) (s : Split) → j < l.other-index → slice_get l.others j ≡ Some s → IsJudged l.fn.ranges l.fn.constraints (s ∷ l.fn.splits) true
