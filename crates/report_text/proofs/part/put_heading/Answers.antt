use Rattle.form_text.proofs.Putting.{puts_then, puts_failed}
use Rattle.report_text.specs.Calls.{calls_text}
use Rattle.report_text.specs.Report.{heading_text}
use Rattle.report_text.proofs.part.put_heading.Goals as goal

pub returns-in_err-put_title : goal.returns-in_err-put_title
unfolding heading_text
returns-in_err-put_title g c = puts_failed (calls_text c.args.part.now.calls) c.from_residual.ensures.0 c.in_err-put_title.ensures

pub returns : goal.returns
unfolding heading_text
returns g c = puts_then c.in_ok-put_title.ensures (rw c.as_slice.ensures at c.put_calls.ensures)
