use Rattle.std.proofs.Common.{◌≡◌, ◌<◌, ◌≤◌, ℕ, vec_len, slice_index}
use Rattle.path_expr.specs.Definitions.{rank}
use Rattle.path_expr.proofs.definitions.ranks_of.Given as goal

abbrev pub invariant-loop-is_used : goal.invariant-loop-is_used
invariant-loop-is_used l = record {
  before : l.before ≡ rank l.used l.is_used-index;
  low : l.before ≤ l.is_used-index;
  size : vec_len l.ranks ≡ l.is_used-index;
  each : (k : ℕ) → k < l.is_used-index → slice_index l.ranks.items k ≡ rank l.used k;
  small : (k : ℕ) → k < l.is_used-index → slice_index l.ranks.items k ≤ k;
}
