use Rattle.std.proofs.Common.{append_assoc}
use Rattle.report_text.specs.Sections.{control_text}
use Rattle.form_text.proofs.Written.{prefix_more, prefix_behind, writes_behind, writes_failed}
use Rattle.report_text.proofs.control.put_control.Goals as goal

pub returns-in_err-put_labelled-clause-text : goal.returns-in_err-put_labelled-clause-text
unfolding control_text
returns-in_err-put_labelled-clause-text g c = simp append_assoc (writes_failed _ _ _ _ c.from_residual.ensures.0 (prefix_more _ _ _ _ c.in_err-put_labelled.ensures.text))

pub returns-in_err-put_labelled-2-clause-text : goal.returns-in_err-put_labelled-2-clause-text
unfolding control_text
returns-in_err-put_labelled-2-clause-text g c = simp append_assoc (writes_failed _ _ _ _ c.from_residual-in_err-put_labelled-2.ensures.0 (prefix_behind _ _ _ _ _ c.in_ok-put_labelled.ensures.text (prefix_more _ _ _ _ c.in_err-put_labelled-2.ensures.text)))

pub returns-in_err-put-clause-text : goal.returns-in_err-put-clause-text
unfolding control_text
returns-in_err-put-clause-text g c = simp append_assoc (writes_failed _ _ _ _ c.from_residual-in_err-put.ensures.0 (prefix_behind _ _ _ _ _ c.in_ok-put_labelled.ensures.text (prefix_behind _ _ _ _ _ c.in_ok-put_labelled-2.ensures.text (prefix_more _ _ _ _ c.in_err-put.ensures.text))))

pub returns-in_err-put_loops-clause-text : goal.returns-in_err-put_loops-clause-text
unfolding control_text
returns-in_err-put_loops-clause-text g c = simp append_assoc (writes_failed _ _ _ _ c.from_residual-in_err-put_loops.ensures.0 (prefix_behind _ _ _ _ _ c.in_ok-put_labelled.ensures.text (prefix_behind _ _ _ _ _ c.in_ok-put_labelled-2.ensures.text (prefix_behind _ _ _ _ _ c.in_ok-put.ensures.text (prefix_more _ _ _ _ (rw c.as_slice.ensures at c.in_err-put_loops.ensures.text))))))

pub returns-in_err-put_levels-clause-text : goal.returns-in_err-put_levels-clause-text
unfolding control_text
returns-in_err-put_levels-clause-text g c = simp append_assoc (writes_failed _ _ _ _ c.from_residual-in_err-put_levels.ensures.0 (prefix_behind _ _ _ _ _ c.in_ok-put_labelled.ensures.text (prefix_behind _ _ _ _ _ c.in_ok-put_labelled-2.ensures.text (prefix_behind _ _ _ _ _ c.in_ok-put.ensures.text (prefix_behind _ _ _ _ _ (rw c.as_slice.ensures at c.in_ok-put_loops.ensures.text) (prefix_more _ _ _ _ (rw c.as_slice-2.ensures at c.in_err-put_levels.ensures.text)))))))

pub returns-clause-text : goal.returns-clause-text
unfolding control_text
returns-clause-text g c = simp append_assoc (writes_behind _ _ _ _ _ _ c.in_ok-put_labelled.ensures.text (writes_behind _ _ _ _ _ _ c.in_ok-put_labelled-2.ensures.text (writes_behind _ _ _ _ _ _ c.in_ok-put.ensures.text (writes_behind _ _ _ _ _ _ (rw c.as_slice.ensures at c.in_ok-put_loops.ensures.text) (writes_behind _ _ _ _ _ _ (rw c.as_slice-2.ensures at c.in_ok-put_levels.ensures.text) c.put_shape.ensures.text)))))
