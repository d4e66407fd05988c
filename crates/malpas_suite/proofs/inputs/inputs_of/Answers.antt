use Rattle.il_core.specs.Checked.{procedure_of}
use Rattle.malpas_suite.proofs.Tried.{inputs_next, there, begins_there}
use Rattle.malpas_suite.proofs.inputs.inputs_of.Goals as goal

pub add_inputs-requires-clause-first : goal.add_inputs-requires-clause-first
add_inputs-requires-clause-first c =
    begins_there (procedure_of c.args.proc.now) c.args.control.now.loops c.args.tables.now c.table-item.result c.requires.tables
    (there c.args.tables.now c.loop-table.table-index c.table-item.result c.loop-table-test.true c.table-item.is)

pub add_inputs-requires-clause-fits : goal.add_inputs-requires-clause-fits
add_inputs-requires-clause-fits c =
    c.requires.fits c.table-item.result (there c.args.tables.now c.loop-table.table-index c.table-item.result c.loop-table-test.true c.table-item.is)

pub loop-table-preserved : goal.loop-table-preserved
loop-table-preserved c =
    let added = c.in_ok-add_inputs.ensures in
    inputs_next (procedure_of c.args.proc.now) c.args.control.now.loops c.args.tables.now c.loop-table.table-index c.table-item.result c.loop-table.all c.add_inputs.new.all added.0
    c.loop-table-test.true c.table-item.is c.loop-table.invariant added.1 added.2
