use Rattle.form_text.proofs.Putting.{puts_then, puts_failed, puts_short}
use Rattle.report_text.specs.Inputs.{row_input_text}
use Rattle.report_text.proofs.inputs.put_row_input.Goals as goal

pub returns-in_err-put_row_number : goal.returns-in_err-put_row_number
unfolding row_input_text
returns-in_err-put_row_number g c = puts_failed _ c.from_residual.ensures.0 (puts_short _ c.in_err-put_row_number.ensures)

pub returns-in_err-put_tried : goal.returns-in_err-put_tried
unfolding row_input_text
returns-in_err-put_tried g c = puts_failed _ c.from_residual-in_err-put_tried.ensures.0 (puts_then c.in_ok-put_row_number.ensures c.in_err-put_tried.ensures)

pub returns : goal.returns
unfolding row_input_text
returns g c = puts_then (puts_then c.in_ok-put_row_number.ensures c.in_ok-put_tried.ensures) c.put.ensures
