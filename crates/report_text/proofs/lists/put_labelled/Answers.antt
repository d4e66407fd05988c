use Rattle.std.proofs.Common.{append-nil}
use Rattle.form_text.proofs.Written.{prefix_more, writes_behind, writes_failed}
use Rattle.report_text.proofs.lists.put_labelled.Goals as goal

pub returns-in_err-put-clause-text : goal.returns-in_err-put-clause-text
returns-in_err-put-clause-text g c = writes_failed _ _ _ _ c.from_residual.ensures.0 (prefix_more _ _ _ _ (rw append-nil at c.in_err-put.ensures.text))

pub returns-clause-text : goal.returns-clause-text
returns-clause-text g c = writes_behind _ _ _ _ _ _ (rw append-nil at c.in_ok-put.ensures.text) (rw c.as_slice.ensures at c.put_lines.ensures.text)
