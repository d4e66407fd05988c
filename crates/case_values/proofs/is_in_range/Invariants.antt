use Rattle.std.proofs.Common.{◌≡◌, ◌<◌, ◌≤ℤ◌, ℕ, length, slice_get, Some}
use Rattle.il_core.specs.Evaluation.{value_at}
use Rattle.il_core.specs.declared.line.Place.{Place}
use Rattle.case_values.proofs.is_in_range.Given as goal

-- the values so far are in range
abbrev pub invariant-loop-index : goal.invariant-loop-index
invariant-loop-index l = record {
  size : length l.vals ≡ length l.places;
  held : (k : ℕ) (p : Place) → k < l.index → slice_get l.places k ≡ Some p → (p.least ≤ℤ value_at l.vals k) × (value_at l.vals k ≤ℤ p.greatest);
}
