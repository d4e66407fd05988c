use Rattle.std.proofs.Common.{◌≡◌, ℕ, ◌<◌, ◌≤◌, List}
use Rattle.std.specs.Prelude.{map, None}
use Rattle.il_core.specs.Statement.{placed}
use Rattle.il_core.specs.declared.statement.Link.{Link}
use Rattle.il_types.specs.CountsBelow.{IsBehind}
use Rattle.il_types.specs.Names.{counts_at}
use Rattle.il_types.specs.Rules.{at_stmt}
use Rattle.call_rules.specs.Fits.{misfit_at}
use Rattle.call_fits.proofs.States.{IsKept}
use Rattle.call_fits.proofs.fits.first_unfit.Given as goal

abbrev pub invariant-loop-i : goal.invariant-loop-i
invariant-loop-i l = record {
  behind : IsBehind l.counts l.i;
  counts : l.counts ≡ counts_at (map placed l.stmts) l.i;
  calls : l.latest.calls ≤ l.i;
  kept : IsKept (map placed l.stmts) l.i l.table.items l.latest;
  before : (links : List Link) (k : ℕ) → k < l.i → at_stmt (misfit_at (map placed l.stmts) links) (map placed l.stmts) k ≡ None;
}
