use Rattle.std.proofs.Common.{◌↔◌, ℕ}
use Rattle.regular_algebra.specs.Relation.{Joins}
use Rattle.data_use.specs.Points.{Carries}
use Rattle.data_use.proofs.lines.line_relation.Given as goal

-- the effects on the first variables are added
abbrev pub invariant-loop-slot : goal.invariant-loop-slot
invariant-loop-slot l = record { each : (x y : ℕ) → Joins l.relation x y ↔ Carries l.nodes l.group l.slot l.at x y }
