use Rattle.std.proofs.Common.{◌≡◌, take}
use Rattle.std.specs.Prelude.{map}
use Rattle.il_core.specs.Statement.{placed}
use Rattle.il_types.specs.CountsBelow.{IsBehind}
use Rattle.il_types.specs.Names.{front_of, counts_at, FindAlike}
use Rattle.il_types.proofs.names.first_names.Given as goal

abbrev pub invariant-loop-i : goal.invariant-loop-i
invariant-loop-i l = record {
  table : FindAlike l.names (front_of (take l.i (map placed l.stmts))).table;
  counts : l.counts ≡ counts_at (map placed l.stmts) l.i;
  behind : IsBehind l.counts l.i;
}
