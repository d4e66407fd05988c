use Rattle.std.proofs.Common.{◌≡◌, ℕ, Option, Some, All, length, slice_get}
use Rattle.il_core.specs.Checked.{procedure_of}
use Rattle.region_paths.specs.Count.{IsHeadCount, IsFewHead}
use Rattle.region_paths.proofs.counting.head_counts.Given as goal

abbrev pub invariant-loop-line : goal.invariant-loop-line
invariant-loop-line l = record {
  size : length l.counts.items ≡ l.line;
  few : All IsFewHead l.counts.items;
  each : (k : ℕ) (o : Option ℕ) → slice_get l.counts.items k ≡ Some o → IsHeadCount (procedure_of l.proc) l.loops k o;
}
