use Rattle.std.proofs.Common.{◌≡◌, ◌≤◌, length, take}
use Rattle.std.specs.Prelude.{map}
use Rattle.il_core.specs.Statement.{placed}
use Rattle.il_core.specs.Text.{text_procedure}
use Rattle.il_types.specs.Names.{counts_at}
use Rattle.il_built.specs.CheckedText.{procedure_names, procedures_from}
use Rattle.il_built.proofs.procedures.procedures_of.Given as goal

abbrev pub invariant-loop-i : goal.invariant-loop-i
invariant-loop-i l = record {
  made : map text_procedure l.procs ≡ procedures_from (map placed l.stmts) l.links 1 (procedure_names (take l.i (map placed l.stmts)));
  number : length l.procs ≡ (counts_at (map placed l.stmts) l.i).procedures;
  few : length l.procs ≤ l.i;
}
