use Rattle.il_core.specs.Checked.{procedure_of}
use Rattle.semantic_tables.specs.Walk.{IsExploredFor}
use Rattle.semantic_tables.specs.declared.exploration.Query.TheVariants.{Hazards}
use Rattle.semantic_tables.specs.declared.making.Explored.TheVariants.{Within}
use Rattle.semantic_tables.proofs.Made.{told_hazards}
use Rattle.semantic_tables.proofs.making.hazards_by.Goals as goal

pub returns-in-Within-clause-hazards : goal.returns-in-Within-clause-hazards
returns-in-Within-clause-hazards c =
    let k : IsExploredFor Hazards (procedure_of c.args.proc.now) c.args.control.now.loops c.args.pc (Within c.in-Within.found) = rw c.in-Within.is at c.in_ok-found.ensures.found in
    (k.0, told_hazards (procedure_of c.args.proc.now) c.args.control.now.loops c.args.pc c.in-Within.found k.1)
