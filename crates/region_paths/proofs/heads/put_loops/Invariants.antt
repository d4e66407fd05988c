use Rattle.std.proofs.Common.{◌≡◌, ℕ, Option, Some, length, slice_get}
use Rattle.region_paths.proofs.LoopHeads.{IsLoopFrom}
use Rattle.region_paths.proofs.heads.put_loops.Given as goal

abbrev pub invariant-loop-at : goal.invariant-loop-at
invariant-loop-at l = record {
  size : length l.heads ≡ length l.initial.heads;
  each : (line : ℕ) (o : Option ℕ) → slice_get l.heads line ≡ Some o → IsLoopFrom l.loops l.at line o;
}
