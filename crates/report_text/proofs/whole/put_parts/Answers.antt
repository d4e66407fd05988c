use Rattle.form_text.proofs.Putting.{puts_broken, puts_more}
use Rattle.report_text.specs.Report.{part_text}
use Rattle.report_text.proofs.whole.put_parts.Goals as goal

pub returns-in-Err : goal.returns-in-Err
returns-in-Err g c = puts_broken (part_text c.args.selection) c.args.procs.now c.loop-part.part-index c.part-item.result c.loop-part-test.true c.loop-part.invariant record { text = rw c.part-item.is at c.in-Err.ensures.text; told = c.in-Err.ensures.told; settled = c.in-Err.ensures.settled; cause = c.in-Err.ensures.cause }

pub loop-part-preserved : goal.loop-part-preserved
loop-part-preserved g c = puts_more (part_text c.args.selection) c.args.procs.now c.loop-part.part-index c.part-item.result c.loop-part-test.true c.loop-part.invariant record { text = rw c.part-item.is at c.in-Ok.ensures.text; told = c.in-Ok.ensures.told; settled = c.in-Ok.ensures.settled; cause = c.in-Ok.ensures.cause }
