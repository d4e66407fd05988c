use Rattle.form_text.proofs.Putting.{puts_then, puts_failed, puts_short}
use Rattle.malpas_literals.specs.Listing.{literal_line}
use Rattle.malpas_literals.proofs.listing.put_literal_line.Goals as goal

pub returns-in_err-put_literal_start : goal.returns-in_err-put_literal_start
unfolding literal_line
returns-in_err-put_literal_start g c = puts_failed _ c.from_residual.ensures.0 (puts_short _ c.in_err-put_literal_start.ensures)

pub returns-in_err-put_said : goal.returns-in_err-put_said
unfolding literal_line
returns-in_err-put_said g c = puts_failed _ c.from_residual-in_err-put_said.ensures.0 (puts_then c.in_ok-put_literal_start.ensures c.in_err-put_said.ensures)

pub returns : goal.returns
unfolding literal_line
returns g c = puts_then (puts_then c.in_ok-put_literal_start.ensures c.in_ok-put_said.ensures) c.put.ensures
