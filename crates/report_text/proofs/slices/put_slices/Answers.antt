use Rattle.form_text.proofs.Putting.{puts_then, puts_failed}
use Rattle.report_text.specs.Slices.{slices_text}
use Rattle.report_text.proofs.slices.put_slices.Goals as goal

pub returns-in_err-put : goal.returns-in_err-put
unfolding slices_text
returns-in_err-put g c = puts_failed _ c.from_residual.ensures.0 c.in_err-put.ensures

pub returns : goal.returns
unfolding slices_text
returns g c = puts_then c.in_ok-put.ensures c.put_slice_rows.ensures
