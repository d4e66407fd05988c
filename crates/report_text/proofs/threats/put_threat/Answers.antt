use Rattle.form_text.proofs.Putting.{puts_then, puts_failed, puts_short}
use Rattle.report_text.specs.Threats.{threat_text}
use Rattle.report_text.proofs.threats.put_threat.Goals as goal

pub returns-in_err-put_numbered : goal.returns-in_err-put_numbered
unfolding threat_text
returns-in_err-put_numbered g c = puts_failed _ c.from_residual.ensures.0 (puts_short _ (puts_short _ (rw c.as_slice.ensures at c.in_err-put_numbered.ensures)))

pub returns-in_err-put_halt : goal.returns-in_err-put_halt
unfolding threat_text
returns-in_err-put_halt g c = puts_failed _ c.from_residual-in_err-put_halt.ensures.0 (puts_short _ (puts_then (rw c.as_slice.ensures at c.in_ok-put_numbered.ensures) c.in_err-put_halt.ensures))

pub returns-in_err-put_verdict : goal.returns-in_err-put_verdict
unfolding threat_text
returns-in_err-put_verdict g c = puts_failed _ c.from_residual-in_err-put_verdict.ensures.0 (puts_then (puts_then (rw c.as_slice.ensures at c.in_ok-put_numbered.ensures) c.in_ok-put_halt.ensures) (rw c.as_slice-2.ensures at c.in_err-put_verdict.ensures))

pub returns : goal.returns
unfolding threat_text
returns g c = puts_then (puts_then (puts_then (rw c.as_slice.ensures at c.in_ok-put_numbered.ensures) c.in_ok-put_halt.ensures) (rw c.as_slice-2.ensures at c.in_ok-put_verdict.ensures)) c.put.ensures
