use Rattle.form_text.proofs.Putting.{puts_broken, puts_more}
use Rattle.report_text.specs.Tables.{table_text}
use Rattle.report_text.proofs.tables.put_each_table.Goals as goal

pub returns-in-Err : goal.returns-in-Err
returns-in-Err g c = puts_broken (table_text c.args.places.now) c.args.tables.now c.loop-table.table-index c.table-item.result c.loop-table-test.true c.loop-table.invariant (rw c.table-item.is at c.in-Err.ensures)

pub loop-table-preserved : goal.loop-table-preserved
loop-table-preserved g c = puts_more (table_text c.args.places.now) c.args.tables.now c.loop-table.table-index c.table-item.result c.loop-table-test.true c.loop-table.invariant (rw c.table-item.is at c.in-Ok.ensures)
