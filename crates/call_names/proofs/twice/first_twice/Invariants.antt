use Rattle.std.proofs.Common.{◌≡◌, ℕ, ◌<◌, ◌≤◌, List, length}
use Rattle.std.specs.Prelude.{map, None}
use Rattle.il_core.specs.Statement.{placed}
use Rattle.il_core.specs.declared.statement.Link.{Link}
use Rattle.il_types.specs.Names.{counts_at}
use Rattle.il_types.specs.Rules.{at_stmt}
use Rattle.il_built.specs.Holding.{setting_at}
use Rattle.il_built.proofs.Given.{given_by}
use Rattle.call_rules.specs.Clash.{twice_at}
use Rattle.call_names.specs.Gathered.{called_in}
use Rattle.call_names.proofs.twice.first_twice.Given as goal

abbrev pub invariant-loop-i : goal.invariant-loop-i
invariant-loop-i l = record {
  few : l.calls ≤ l.i;
  calls : l.calls ≡ length (given_by (λ k y. called_in (setting_at (map placed l.stmts) k) y) (map placed l.stmts) (counts_at (map placed l.stmts) l.i).procedures l.i);
  before : (links : List Link) (k : ℕ) → k < l.i → at_stmt (twice_at (map placed l.stmts) links) (map placed l.stmts) k ≡ None;
}
