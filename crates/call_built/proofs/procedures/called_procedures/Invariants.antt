use Rattle.std.proofs.Common.{◌≡◌, ◌≤◌, length, take}
use Rattle.std.specs.Prelude.{map}
use Rattle.il_core.specs.Statement.{placed}
use Rattle.il_types.specs.Names.{counts_at}
use Rattle.il_built.specs.CheckedText.{procedure_names}
use Rattle.il_called.specs.Called.{procedure_of}
use Rattle.call_rules.specs.CalledText.{procedures_from}
use Rattle.call_built.proofs.procedures.called_procedures.Given as goal

abbrev pub invariant-loop-i : goal.invariant-loop-i
invariant-loop-i l = record {
  made : map procedure_of l.procs ≡ procedures_from (map placed l.stmts) l.links 1 (procedure_names (take l.i (map placed l.stmts)));
  number : length l.procs ≡ (counts_at (map placed l.stmts) l.i).procedures;
  few : length l.procs ≤ l.i;
}
