use Rattle.report_text.specs.Sections.{usage_text}
use Rattle.form_text.proofs.Written.{prefix_more, writes_behind, writes_failed}
use Rattle.report_text.proofs.usage.put_usage.Goals as goal

pub returns-in_err-put-clause-text : goal.returns-in_err-put-clause-text
unfolding usage_text
returns-in_err-put-clause-text g c = writes_failed _ _ _ _ c.from_residual.ensures.0 (prefix_more _ _ _ _ c.in_err-put.ensures.text)

pub returns-clause-text : goal.returns-clause-text
unfolding usage_text
returns-clause-text g c = writes_behind _ _ _ _ _ _ c.in_ok-put.ensures.text c.put_uses.ensures.text
