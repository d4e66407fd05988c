use Rattle.std.proofs.Common.{◌≡◌, ◌<◌, ◌∷◌, ℕ, true, Some, slice_get}
use Rattle.path_inputs.specs.Bounding.{IsJudged}
use Rattle.threat_certs.specs.Counting.{splits_among}
use Rattle.threat_certs.specs.declared.counting.Fork.{Fork}
use Rattle.threat_certs.proofs.refuting.search_all.Given as goal

-- the core has a solution, and each of those so far has one beside it
abbrev pub invariant-loop-other : goal.invariant-loop-other
invariant-loop-other l =
    IsJudged l.fn.ranges l.fn.bounds.constraints.items (splits_among l.fn.core) true
    × ((j : ℕ) (f : Fork) → j < l.other-index → slice_get l.others j ≡ Some f → IsJudged l.fn.ranges l.fn.bounds.constraints.items (splits_among (f ∷ l.fn.core)) true)
