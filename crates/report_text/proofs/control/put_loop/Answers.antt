use Rattle.std.proofs.Common.{append_assoc}
use Rattle.report_text.specs.Sections.{loop_text}
use Rattle.form_text.proofs.Written.{prefix_more, prefix_behind, writes_behind, writes_failed}
use Rattle.report_text.proofs.control.put_loop.Goals as goal

pub returns-in_err-put_line-clause-text : goal.returns-in_err-put_line-clause-text
unfolding loop_text
returns-in_err-put_line-clause-text g c = simp append_assoc (writes_failed _ _ _ _ c.from_residual.ensures.0 (prefix_more _ _ _ _ c.in_err-put_line.ensures.text))

pub returns-in_err-put_labelled-clause-text : goal.returns-in_err-put_labelled-clause-text
unfolding loop_text
returns-in_err-put_labelled-clause-text g c = simp append_assoc (writes_failed _ _ _ _ c.from_residual-in_err-put_labelled.ensures.0 (prefix_behind _ _ _ _ _ c.in_ok-put_line.ensures.text (prefix_more _ _ _ _ c.in_err-put_labelled.ensures.text)))

pub returns-in_err-put_labelled-2-clause-text : goal.returns-in_err-put_labelled-2-clause-text
unfolding loop_text
returns-in_err-put_labelled-2-clause-text g c = simp append_assoc (writes_failed _ _ _ _ c.from_residual-in_err-put_labelled-2.ensures.0 (prefix_behind _ _ _ _ _ c.in_ok-put_line.ensures.text (prefix_behind _ _ _ _ _ c.in_ok-put_labelled.ensures.text (prefix_more _ _ _ _ c.in_err-put_labelled-2.ensures.text))))

pub returns-clause-text : goal.returns-clause-text
unfolding loop_text
returns-clause-text g c = simp append_assoc (writes_behind _ _ _ _ _ _ c.in_ok-put_line.ensures.text (writes_behind _ _ _ _ _ _ c.in_ok-put_labelled.ensures.text (writes_behind _ _ _ _ _ _ c.in_ok-put_labelled-2.ensures.text c.put.ensures.text)))
