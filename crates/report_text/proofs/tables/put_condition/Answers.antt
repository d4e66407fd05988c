use Rattle.std.proofs.Common.{codes}
use Rattle.sym_simplify.specs.FormText.{literal_form_text}
use Rattle.sym_simplify.specs.Literal.{literal_form_of}
use Rattle.form_text.specs.Lists.{place_at}
use Rattle.form_text.proofs.Putting.{puts_then, puts_failed, puts_short}
use Rattle.report_text.proofs.tables.put_condition.Goals as goal

pub returns-in_err-put : goal.returns-in_err-put
returns-in_err-put g c = puts_failed (codes "\n") c.from_residual.ensures.0
    (puts_short (literal_form_text (place_at c.args.places.now) (literal_form_of c.args.literal.now)) c.in_err-put.ensures)

pub returns-in_err-put_literal : goal.returns-in_err-put_literal
returns-in_err-put_literal g c = puts_failed _ c.from_residual-in_err-put_literal.ensures.0 (puts_then c.in_ok-put.ensures c.in_err-put_literal.ensures)

pub returns : goal.returns
returns g c = puts_then (puts_then c.in_ok-put.ensures c.in_ok-put_literal.ensures) c.put-2.ensures
