use Rattle.form_text.proofs.Putting.{puts_then, puts_failed}
use Rattle.report_text.specs.Report.{part_text}
use Rattle.report_text.proofs.part.put_part.Goals as goal

pub returns-in_err-put_graph-clause-text : goal.returns-in_err-put_graph-clause-text
unfolding part_text
returns-in_err-put_graph-clause-text g c = (puts_failed _ c.from_residual.ensures.0 c.in_err-put_graph.ensures).text

pub returns-clause-text : goal.returns-clause-text
unfolding part_text
returns-clause-text g c = (puts_then c.in_ok-put_graph.ensures c.put_values.ensures).text
