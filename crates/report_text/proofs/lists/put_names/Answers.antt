use Rattle.form_text.specs.Lists.{names_text}
use Rattle.form_text.proofs.Written.{prefix_more, writes_behind, writes_failed}
use Rattle.report_text.proofs.lists.put_names.Goals as goal

pub returns-in_err-put_place-in-Some-clause-text : goal.returns-in_err-put_place-in-Some-clause-text
unfolding names_text
returns-in_err-put_place-in-Some-clause-text g c =
    rw c.in-Some.ensures.cases.0 (writes_failed _ _ c.from_residual.result _ c.from_residual.ensures.0 (prefix_more _ _ _ _ c.in_err-put_place-in-Some.ensures.text))

pub returns-in_ok-put_place-in-Some-clause-text : goal.returns-in_ok-put_place-in-Some-clause-text
unfolding names_text
returns-in_ok-put_place-in-Some-clause-text g c =
    rw c.in-Some.ensures.cases.0 (writes_behind _ _ _ c.put_other_names.result _ _ c.in_ok-put_place-in-Some.ensures.text c.put_other_names.ensures.text)
