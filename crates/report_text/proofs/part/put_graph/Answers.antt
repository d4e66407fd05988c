use Rattle.form_text.proofs.Putting.{puts_then, puts_failed, puts_short}
use Rattle.report_text.specs.Report.{graph_text}
use Rattle.report_text.proofs.part.put_graph.Goals as goal

pub returns-in_err-put_heading : goal.returns-in_err-put_heading
unfolding graph_text
returns-in_err-put_heading g c = puts_failed _ c.from_residual.ensures.0 (puts_short _ (puts_short _ (puts_short _ (puts_short _ c.in_err-put_heading.ensures))))

pub returns-in_err-put_chosen_control : goal.returns-in_err-put_chosen_control
unfolding graph_text
returns-in_err-put_chosen_control g c = puts_failed _ c.from_residual-in_err-put_chosen_control.ensures.0 (puts_short _ (puts_short _ (puts_short _ (puts_then c.in_ok-put_heading.ensures c.in_err-put_chosen_control.ensures))))

pub returns-in_err-put_chosen_usage : goal.returns-in_err-put_chosen_usage
unfolding graph_text
returns-in_err-put_chosen_usage g c = puts_failed _ c.from_residual-in_err-put_chosen_usage.ensures.0 (puts_short _ (puts_short _ (puts_then (puts_then c.in_ok-put_heading.ensures c.in_ok-put_chosen_control.ensures) c.in_err-put_chosen_usage.ensures)))

pub returns-in_err-put_chosen_flow : goal.returns-in_err-put_chosen_flow
unfolding graph_text
returns-in_err-put_chosen_flow g c = puts_failed _ c.from_residual-in_err-put_chosen_flow.ensures.0 (puts_short _ (puts_then (puts_then (puts_then c.in_ok-put_heading.ensures c.in_ok-put_chosen_control.ensures) c.in_ok-put_chosen_usage.ensures) c.in_err-put_chosen_flow.ensures))

pub returns-in_err-put_chosen_slice : goal.returns-in_err-put_chosen_slice
unfolding graph_text
returns-in_err-put_chosen_slice g c = puts_failed _ c.from_residual-in_err-put_chosen_slice.ensures.0 (puts_then (puts_then (puts_then (puts_then c.in_ok-put_heading.ensures c.in_ok-put_chosen_control.ensures) c.in_ok-put_chosen_usage.ensures) c.in_ok-put_chosen_flow.ensures) c.in_err-put_chosen_slice.ensures)

pub returns : goal.returns
unfolding graph_text
returns g c = puts_then (puts_then (puts_then (puts_then (puts_then c.in_ok-put_heading.ensures c.in_ok-put_chosen_control.ensures) c.in_ok-put_chosen_usage.ensures) c.in_ok-put_chosen_flow.ensures) c.in_ok-put_chosen_slice.ensures) c.put_chosen_paths.ensures
