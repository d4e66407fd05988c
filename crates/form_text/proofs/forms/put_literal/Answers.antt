use Rattle.std.proofs.Common.{append_assoc}
use Rattle.form_text.proofs.Putting.{puts_then, puts_failed}
use Rattle.form_text.proofs.forms.put_literal.Goals as goal

pub returns-in_err-put_normal-in-Keep : goal.returns-in_err-put_normal-in-Keep
returns-in_err-put_normal-in-Keep g c = rw c.in-Keep.is (simp append_assoc (puts_failed _ c.from_residual.ensures.0 c.in_err-put_normal-in-Keep.ensures))

pub returns-in_ok-put_normal-in-Keep : goal.returns-in_ok-put_normal-in-Keep
returns-in_ok-put_normal-in-Keep g c = rw c.in-Keep.is (simp append_assoc (puts_then c.in_ok-put_normal-in-Keep.ensures (simp append_assoc at c.put_bound.ensures)))
