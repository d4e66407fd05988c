use Rattle.std.proofs.Common.{ℕ, ◌<◌, ◌≤◌}
use Rattle.control_flow.specs.Forward.{IsEntered}
use Rattle.control_flow.proofs.evidence.entry_from.Given as goal

abbrev pub invariant-loop-line : goal.invariant-loop-line
invariant-loop-line l = (k : ℕ) → l.from ≤ k → k < l.line → IsEntered l.tails l.marks l.paths k → ⊥
