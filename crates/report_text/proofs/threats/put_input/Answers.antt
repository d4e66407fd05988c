use Rattle.form_text.proofs.Putting.{puts_then, puts_failed}
use Rattle.report_text.proofs.threats.put_input.Goals as goal

pub returns-in_err-put_equal-in-Some : goal.returns-in_err-put_equal-in-Some
returns-in_err-put_equal-in-Some g c = rw c.in-Some.ensures.cases.0 (puts_failed _ c.from_residual.ensures.0 c.in_err-put_equal-in-Some.ensures)

pub returns-in_ok-put_equal-in-Some : goal.returns-in_ok-put_equal-in-Some
returns-in_ok-put_equal-in-Some g c = rw c.in-Some.ensures.cases.0 (puts_then c.in_ok-put_equal-in-Some.ensures c.put_other_values.ensures)
