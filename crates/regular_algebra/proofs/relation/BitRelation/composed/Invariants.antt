use Rattle.std.proofs.Common.{◌↔◌, ◌<◌, ℕ}
use Rattle.regular_algebra.specs.Relation.{Joins}
use Rattle.regular_algebra.proofs.relation.BitRelation.composed.Given as goal

abbrev pub invariant-loop-a : goal.invariant-loop-a
invariant-loop-a l = record { each : (x y : ℕ) → Joins l.product x y ↔ ((x < l.a) × ((c : ℕ) × Joins l.self x c × Joins l.other c y)) }
