use Rattle.report_text.specs.Sections.{level_text}
use Rattle.form_text.proofs.Written.{prefix_more, writes_behind, writes_failed}
use Rattle.report_text.proofs.control.put_level.Goals as goal

pub returns-in_err-put_level_line-clause-text : goal.returns-in_err-put_level_line-clause-text
unfolding level_text
returns-in_err-put_level_line-clause-text g c = writes_failed _ _ _ _ c.from_residual.ensures.0 (prefix_more _ _ _ _ c.in_err-put_level_line.ensures.text)

pub returns-clause-text : goal.returns-clause-text
unfolding level_text
returns-clause-text g c = writes_behind _ _ _ _ _ _ c.in_ok-put_level_line.ensures.text (rw c.as_slice.ensures at c.put_intervals.ensures.text)
