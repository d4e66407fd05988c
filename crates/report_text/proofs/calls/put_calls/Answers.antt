use Rattle.form_text.proofs.Putting.{puts_broken, puts_more}
use Rattle.report_text.specs.Calls.{call_text}
use Rattle.report_text.proofs.calls.put_calls.Goals as goal

pub returns-in-Err : goal.returns-in-Err
returns-in-Err g c = puts_broken call_text c.args.calls.now c.loop-call.call-index c.call-item.result c.loop-call-test.true c.loop-call.invariant (rw c.call-item.is at c.in-Err.ensures)

pub loop-call-preserved : goal.loop-call-preserved
loop-call-preserved g c = puts_more call_text c.args.calls.now c.loop-call.call-index c.call-item.result c.loop-call-test.true c.loop-call.invariant (rw c.call-item.is at c.in-Ok.ensures)
