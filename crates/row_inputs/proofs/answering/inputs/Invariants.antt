use Rattle.std.proofs.Common.{map, take}
use Rattle.il_core.specs.Checked.{procedure_of}
use Rattle.semantic_tables.specs.Row.{row_of}
use Rattle.row_inputs.specs.Input.{TestInputsAre}
use Rattle.row_inputs.proofs.answering.inputs.Given as goal

-- those of the rows so far
abbrev pub invariant-loop-row : goal.invariant-loop-row
invariant-loop-row l = TestInputsAre (procedure_of l.fn.proc) l.fn.control.loops l.fn.pc (map row_of (take l.row-index l.rows)) l.answers
