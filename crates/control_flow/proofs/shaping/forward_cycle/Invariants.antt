use Rattle.std.proofs.Common.{ℕ, ◌<◌}
use Rattle.control_flow.specs.Forward.{ComesBack}
use Rattle.control_flow.proofs.shaping.forward_cycle.Given as goal

abbrev pub invariant-loop-line : goal.invariant-loop-line
invariant-loop-line l = (m : ℕ) → m < l.line → ComesBack l.forward m → ⊥
