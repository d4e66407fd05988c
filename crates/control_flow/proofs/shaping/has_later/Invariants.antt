use Rattle.std.proofs.Common.{ℕ, ◌≤◌, take}
use Rattle.il_core.specs.LineGraph.{IsIn}
use Rattle.control_flow.proofs.shaping.has_later.Given as goal

abbrev pub invariant-loop-at : goal.invariant-loop-at
invariant-loop-at l = (u : ℕ) → IsIn (take l.at-index l.row) u → u ≤ l.line
