use Rattle.std.proofs.Common.{◌≡◌, ℕ, ◌<◌, length}
use Rattle.std.specs.Prelude.{slice_index}
use Rattle.interval_reduce.proofs.arcs.own_places.Given as goal

abbrev pub invariant-loop-place : goal.invariant-loop-place
invariant-loop-place l = record {
  size : length l.places.items ≡ l.place;
  places : (k : ℕ) → k < l.place → slice_index l.places.items k ≡ k;
}
