use Rattle.form_text.proofs.Putting.{puts_then, puts_failed, puts_short}
use Rattle.report_text.proofs.tables.put_assigned.Goals as goal

pub returns-in_err-put_place : goal.returns-in_err-put_place
returns-in_err-put_place g c = puts_failed _ c.from_residual.ensures.0 (puts_short _ (puts_short _ c.in_err-put_place.ensures))

pub returns-in_err-put : goal.returns-in_err-put
returns-in_err-put g c = puts_failed _ c.from_residual-in_err-put.ensures.0 (puts_short _ (puts_then c.in_ok-put_place.ensures c.in_err-put.ensures))

pub returns-in_err-put_normal : goal.returns-in_err-put_normal
returns-in_err-put_normal g c = puts_failed _ c.from_residual-in_err-put_normal.ensures.0 (puts_then (puts_then c.in_ok-put_place.ensures c.in_ok-put.ensures) c.in_err-put_normal.ensures)

pub returns : goal.returns
returns g c = puts_then (puts_then (puts_then c.in_ok-put_place.ensures c.in_ok-put.ensures) c.in_ok-put_normal.ensures) c.put-2.ensures
