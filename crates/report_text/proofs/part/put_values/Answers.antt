use Rattle.form_text.proofs.Putting.{puts_then, puts_failed, puts_short}
use Rattle.report_text.specs.Report.{values_text}
use Rattle.report_text.proofs.part.put_values.Goals as goal

pub returns-in_err-put_chosen_semantic : goal.returns-in_err-put_chosen_semantic
unfolding values_text
returns-in_err-put_chosen_semantic g c = puts_failed _ c.from_residual.ensures.0 (puts_short _ (puts_short _ c.in_err-put_chosen_semantic.ensures))

pub returns-in_err-put_chosen_inputs : goal.returns-in_err-put_chosen_inputs
unfolding values_text
returns-in_err-put_chosen_inputs g c = puts_failed _ c.from_residual-in_err-put_chosen_inputs.ensures.0 (puts_short _ (puts_then c.in_ok-put_chosen_semantic.ensures c.in_err-put_chosen_inputs.ensures))

pub returns-in_err-put_chosen_compliance : goal.returns-in_err-put_chosen_compliance
unfolding values_text
returns-in_err-put_chosen_compliance g c = puts_failed _ c.from_residual-in_err-put_chosen_compliance.ensures.0 (puts_then (puts_then c.in_ok-put_chosen_semantic.ensures c.in_ok-put_chosen_inputs.ensures) c.in_err-put_chosen_compliance.ensures)

pub returns : goal.returns
unfolding values_text
returns g c = puts_then (puts_then (puts_then c.in_ok-put_chosen_semantic.ensures c.in_ok-put_chosen_inputs.ensures) c.in_ok-put_chosen_compliance.ensures) c.put_chosen_certificates.ensures
