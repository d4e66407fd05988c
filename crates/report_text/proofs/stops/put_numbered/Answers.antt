use Rattle.std.proofs.Common.{◌++◌, codes, decimal, append_assoc}
use Rattle.form_text.proofs.Putting.{puts_then, puts_failed, puts_as}
use Rattle.report_text.proofs.stops.put_numbered.Goals as goal

pub returns-in_err-put : goal.returns-in_err-put
returns-in_err-put g c = puts_failed {s = c.args.label.now ++ decimal c.args.number ++ codes " PATH "} _ c.from_residual.ensures.0 (puts_as (simp append_assoc) (rw (c.as_bytes.ensures.value, c.format.ensures.text) at c.in_err-put.ensures))

pub returns : goal.returns
returns g c = puts_then (puts_as (simp append_assoc) (rw (c.as_bytes.ensures.value, c.format.ensures.text) at c.in_ok-put.ensures)) c.put_path.ensures
