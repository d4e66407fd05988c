use Rattle.form_text.proofs.Putting.{puts_then, puts_failed}
use Rattle.report_text.proofs.inputs.put_region_inputs.Goals as goal

pub returns-in_err-put_region_line : goal.returns-in_err-put_region_line
returns-in_err-put_region_line g c = puts_failed _ c.from_residual.ensures.0 c.in_err-put_region_line.ensures

pub returns : goal.returns
returns g c = puts_then c.in_ok-put_region_line.ensures c.put_row_inputs.ensures
