use Rattle.std.proofs.Common.{◌↔◌, ◌⊎◌, ℕ, take}
use Rattle.regular_algebra.specs.Relation.{Joins}
use Rattle.data_use.specs.Points.{AddsMove}
use Rattle.data_use.proofs.points.add_moves.Given as goal

-- the first moves are added
abbrev pub invariant-loop-step : goal.invariant-loop-step
invariant-loop-step l = record { each : (x y : ℕ) → Joins l.relation x y ↔ (Joins l.fn.relation x y ⊎ AddsMove l.first (take l.step-index l.moves) x y) }
