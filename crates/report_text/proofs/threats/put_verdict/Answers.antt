use Rattle.form_text.proofs.Putting.{puts_then, puts_failed}
use Rattle.report_text.proofs.threats.put_verdict.Goals as goal

pub returns-in_err-put-in-Shown : goal.returns-in_err-put-in-Shown
returns-in_err-put-in-Shown g c = rw c.in-Shown.is (puts_failed _ c.from_residual.ensures.0 c.in_err-put-in-Shown.ensures)

pub returns-in_err-put-in-Open : goal.returns-in_err-put-in-Open
returns-in_err-put-in-Open g c = rw c.in-Open.is (puts_failed _ c.from_residual-in_err-put-in-Open.ensures.0 c.in_err-put-in-Open.ensures)

pub returns-in_ok-put-in-Shown : goal.returns-in_ok-put-in-Shown
returns-in_ok-put-in-Shown g c = rw c.in-Shown.is (puts_then c.in_ok-put-in-Shown.ensures (rw c.as_slice.ensures at c.put_input.ensures))

pub returns-in_ok-put-in-Open : goal.returns-in_ok-put-in-Open
returns-in_ok-put-in-Open g c = rw c.in-Open.is (puts_then c.in_ok-put-in-Open.ensures c.put_literal_at.ensures)
