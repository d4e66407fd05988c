use Rattle.std.proofs.Common.{◌≡◌, ℕ, ◌<◌, take}
use Rattle.std.specs.Prelude.{map, None}
use Rattle.il_core.specs.Statement.{placed}
use Rattle.il_types.specs.CountsBelow.{IsBehind}
use Rattle.il_types.specs.Names.{front_of, counts_at}
use Rattle.il_types.specs.Rules.{twice, at_stmt}
use Rattle.il_types.proofs.names.declare_until.Given as goal

abbrev pub invariant-loop-i : goal.invariant-loop-i
invariant-loop-i l = record {
  table : l.names ≡ (front_of (take l.i (map placed l.stmts))).table;
  counts : l.counts ≡ counts_at (map placed l.stmts) l.i;
  behind : IsBehind l.counts l.i;
  before : (k : ℕ) → k < l.i → at_stmt (twice (map placed l.stmts)) (map placed l.stmts) k ≡ None;
}
