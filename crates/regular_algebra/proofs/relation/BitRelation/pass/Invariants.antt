use Rattle.std.proofs.Common.{◌↔◌, ◌⊎◌, ◌<◌, ℕ}
use Rattle.regular_algebra.specs.Relation.{Joins}
use Rattle.regular_algebra.proofs.relation.BitRelation.pass.Given as goal

abbrev pub invariant-loop-a : goal.invariant-loop-a
invariant-loop-a l =
    record { each : (x y : ℕ) → Joins l.self x y ↔ (Joins l.fn.self x y ⊎ ((x < l.a) × Joins l.fn.self x l.k × Joins l.fn.self l.k y)) }
