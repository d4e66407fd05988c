use Rattle.std.proofs.Common.{◌≡◌, ℕ, ◌<◌, length}
use Rattle.std.specs.Prelude.{map, Some, slice_get}
use Rattle.il_core.specs.Statement.{placed}
use Rattle.il_types.specs.CountsBelow.{IsBehind}
use Rattle.il_types.specs.Names.{counts_at}
use Rattle.il_types.proofs.counts.all_counts.Given as goal

abbrev pub invariant-loop-i : goal.invariant-loop-i
invariant-loop-i l = record {
  counts : l.counts ≡ counts_at (map placed l.stmts) l.i;
  behind : IsBehind l.counts l.i;
  size : length l.all.items ≡ l.i;
  each : (k : ℕ) → k < l.i → slice_get l.all.items k ≡ Some (counts_at (map placed l.stmts) k);
}
