use Rattle.std.proofs.Common.{take}
use Rattle.il_core.specs.Checked.{procedure_of}
use Rattle.report.specs.Inputs.{AreInputs}
use Rattle.malpas_suite.proofs.inputs.inputs_of.Given as goal

-- those of the tables so far
abbrev pub invariant-loop-table : goal.invariant-loop-table
invariant-loop-table l = AreInputs (procedure_of l.fn.proc) l.fn.control.loops (take l.table-index l.tables) l.all
