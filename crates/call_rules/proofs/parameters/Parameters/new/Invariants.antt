use Rattle.std.proofs.Common.{◌≡◌, [], ◌∷◌, ◌++◌, length}
use Rattle.std.specs.Prelude.{map}
use Rattle.il_core.specs.Statement.{placed}
use Rattle.il_types.specs.Names.{counts_at}
use Rattle.call_rules.proofs.Gathering.{AreGathered}
use Rattle.call_rules.proofs.parameters.Parameters.new.Given as goal

abbrev pub invariant-loop-i : goal.invariant-loop-i
invariant-loop-i l = record {
  size : length l.lists.items ≡ (counts_at (map placed l.stmts) l.i).procedures;
  each : AreGathered (map placed l.stmts) l.i (l.lists.items ++ l.latest ∷ []);
}
