use Rattle.form_text.proofs.Putting.{puts_then, puts_failed}
use Rattle.report_text.specs.Inputs.{inputs_text}
use Rattle.report_text.proofs.inputs.put_inputs.Goals as goal

pub returns-in_err-put : goal.returns-in_err-put
unfolding inputs_text
returns-in_err-put g c = puts_failed _ c.from_residual.ensures.0 c.in_err-put.ensures

pub returns : goal.returns
unfolding inputs_text
returns g c = puts_then c.in_ok-put.ensures c.put_tried_regions.ensures
