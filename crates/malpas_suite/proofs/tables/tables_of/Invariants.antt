use Rattle.std.proofs.Common.{◌∷◌, take}
use Rattle.control_flow.specs.Control.{heads_of}
use Rattle.il_core.specs.Checked.{procedure_of}
use Rattle.malpas_suite.proofs.Regions.{AreTablesOf}
use Rattle.malpas_suite.proofs.tables.tables_of.Given as goal

abbrev pub invariant-loop-info : goal.invariant-loop-info
invariant-loop-info l = AreTablesOf (procedure_of l.proc) l.control.loops (0 ∷ take l.info-index (heads_of l.control.loops)) l.tables
