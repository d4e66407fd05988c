use Rattle.report_text.proofs.TriedRegions.{none_tried, next_tried, stopped_tried, all_tried}
use Rattle.report_text.proofs.inputs.put_tried_regions.Goals as goal

pub loop-table-init : goal.loop-table-init
loop-table-init g c = none_tried c.args.sink.now c.args.places.now c.args.tables.now c.args.inputs.now

pub loop-table-preserved : goal.loop-table-preserved
loop-table-preserved g c =
    next_tried c.args.places.now c.args.tables.now c.args.inputs.now c.loop-table.left.now c.behind_next-left.result.now c.loop-table.table-index c.table-item.result
    c.loop-table-test.true c.table-item.is c.behind_next-left.ensures c.loop-table.invariant (rw c.rows_next-rows.ensures at c.in-Ok.ensures)

pub returns-in-Err : goal.returns-in-Err
returns-in-Err g c =
    stopped_tried c.args.places.now c.args.tables.now c.args.inputs.now c.loop-table.left.now c.loop-table.table-index c.table-item.result c.in-Err.failed
    c.loop-table-test.true c.table-item.is c.loop-table.invariant (rw c.rows_next-rows.ensures at c.in-Err.ensures)

pub returns : goal.returns
returns g c = all_tried c.args.places.now c.args.tables.now c.args.inputs.now c.loop-table.left.now c.loop-table.table-index c.loop-table-test.false c.loop-table.invariant
