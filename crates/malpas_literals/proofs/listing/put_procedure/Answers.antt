use Rattle.form_text.proofs.Putting.{puts_then, puts_failed, puts_short}
use Rattle.malpas_literals.specs.Listing.{procedure_lines}
use Rattle.malpas_literals.proofs.listing.put_procedure.Goals as goal

pub returns-in_err-put_name : goal.returns-in_err-put_name
unfolding procedure_lines
returns-in_err-put_name g c = puts_failed _ c.from_residual.ensures.0 (puts_short _ c.in_err-put_name.ensures)

pub returns-in_err-put_places : goal.returns-in_err-put_places
unfolding procedure_lines
returns-in_err-put_places g c = puts_failed _ c.from_residual-in_err-put_places.ensures.0 (puts_then c.in_ok-put_name.ensures (rw c.as_slice-places.ensures at c.in_err-put_places.ensures))

pub returns : goal.returns
unfolding procedure_lines
returns g c = puts_then (puts_then c.in_ok-put_name.ensures (rw c.as_slice-places.ensures at c.in_ok-put_places.ensures)) (rw c.as_slice-places.ensures at c.put_threats.ensures)
