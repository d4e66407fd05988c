use Rattle.std.proofs.Common.{◌≡◌, ℕ, ◌<◌}
use Rattle.std.specs.Prelude.{map, None}
use Rattle.il_core.specs.Statement.{placed}
use Rattle.il_types.specs.CountsBelow.{IsBehind}
use Rattle.il_types.specs.Names.{counts_at}
use Rattle.il_types.specs.Rules.{at_stmt}
use Rattle.call_rules.specs.Calls.{fault_at}
use Rattle.call_rules.proofs.rules.first_broken.Given as goal

abbrev pub invariant-loop-i : goal.invariant-loop-i
invariant-loop-i l = record {
  counts : l.counts ≡ counts_at (map placed l.stmts) l.i;
  behind : IsBehind l.counts l.i;
  before : (k : ℕ) → k < l.i → at_stmt (fault_at l.rule (map placed l.stmts)) (map placed l.stmts) k ≡ None;
}
