use Rattle.form_text.proofs.Putting.{puts_then, puts_failed}
use Rattle.report_text.specs.Slices.{fixes_text}
use Rattle.report_text.proofs.slices.put_fixes.Goals as goal

pub returns-in_err-put_fixed-in-Some : goal.returns-in_err-put_fixed-in-Some
unfolding fixes_text
returns-in_err-put_fixed-in-Some g c = rw c.in-Some.ensures.cases.0 (puts_failed _ c.from_residual.ensures.0 c.in_err-put_fixed-in-Some.ensures)

pub returns-in_ok-put_fixed-in-Some : goal.returns-in_ok-put_fixed-in-Some
unfolding fixes_text
returns-in_ok-put_fixed-in-Some g c = rw c.in-Some.ensures.cases.0 (puts_then c.in_ok-put_fixed-in-Some.ensures c.put_other_fixes.ensures)
