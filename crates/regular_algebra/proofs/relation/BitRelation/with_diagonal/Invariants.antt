use Rattle.std.proofs.Common.{◌↔◌, ◌⊎◌, ◌≡◌, ◌<◌, ℕ}
use Rattle.regular_algebra.specs.Relation.{Joins}
use Rattle.regular_algebra.proofs.relation.BitRelation.with_diagonal.Given as goal

abbrev pub invariant-loop-a : goal.invariant-loop-a
invariant-loop-a l = record { each : (x y : ℕ) → Joins l.turned x y ↔ (Joins l.self x y ⊎ ((x ≡ y) × (x < l.a))) }
