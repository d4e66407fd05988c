use Rattle.std.proofs.Common.{◌≡◌, ℕ, ◌<◌, List}
use Rattle.std.specs.Prelude.{map, None}
use Rattle.il_core.specs.Statement.{placed}
use Rattle.il_core.specs.declared.statement.Link.{Link}
use Rattle.il_types.specs.CountsBelow.{IsBehind}
use Rattle.il_types.specs.Rules.{at_stmt}
use Rattle.call_rules.specs.Limits.{excess_at}
use Rattle.call_limits.proofs.States.{IsState}
use Rattle.call_limits.proofs.limits.first_past_limits.Given as goal

abbrev pub invariant-loop-i : goal.invariant-loop-i
invariant-loop-i l = record {
  behind : IsBehind l.counts l.i;
  state : IsState (map placed l.stmts) l.i l.counts l.table.items l.extent;
  before : (links : List Link) (k : ℕ) → k < l.i → at_stmt (excess_at (map placed l.stmts) links) (map placed l.stmts) k ≡ None;
}
