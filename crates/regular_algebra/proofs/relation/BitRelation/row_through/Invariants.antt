use Rattle.std.proofs.Common.{◌↔◌, ◌<◌, ◌≤◌, ◌-◌, ℕ, slice_index}
use Rattle.regular_algebra.specs.Relation.{HasBit}
use Rattle.regular_algebra.proofs.relation.BitRelation.row_through.Given as goal

-- the points below `from` are passed
abbrev pub invariant-loop-point : goal.invariant-loop-point
invariant-loop-point l =
    record {
      low : l.from ≤ 66;
      each : (y : ℕ) → HasBit l.joined y ↔ ((c : ℕ) × (c < l.from) × HasBit l.row c × HasBit (slice_index l.self.rows c) y);
    }

abbrev pub decreases-loop-point : goal.decreases-loop-point
decreases-loop-point l = 66 - l.from
