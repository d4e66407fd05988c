use Rattle.std.proofs.Common.{◌≡◌, ℕ, ◌+◌, ◌<◌, ◌≤◌}
use Rattle.std.specs.Prelude.{map}
use Rattle.il_core.specs.Statement.{placed}
use Rattle.il_types.specs.Names.{counts_at}
use Rattle.il_built.proofs.spans.end_of.Given as goal

abbrev pub invariant-loop-i : goal.invariant-loop-i
invariant-loop-i l = (k : ℕ) → l.at + 1 ≤ k → k < l.i → (counts_at (map placed l.stmts) k).procedures ≡ l.owner
