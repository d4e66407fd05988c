use Rattle.form_text.proofs.Putting.{puts_broken, puts_more}
use Rattle.report_text.specs.Slices.{slice_text}
use Rattle.report_text.proofs.slices.put_slice_rows.Goals as goal

pub returns-in-Err : goal.returns-in-Err
returns-in-Err g c = puts_broken (slice_text c.args.places.now) c.args.rows.now c.loop-row.row-index c.row-item.result c.loop-row-test.true c.loop-row.invariant (rw c.row-item.is at c.in-Err.ensures)

pub loop-row-preserved : goal.loop-row-preserved
loop-row-preserved g c = puts_more (slice_text c.args.places.now) c.args.rows.now c.loop-row.row-index c.row-item.result c.loop-row-test.true c.loop-row.invariant (rw c.row-item.is at c.in-Ok.ensures)
