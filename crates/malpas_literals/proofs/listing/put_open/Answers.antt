use Rattle.form_text.proofs.Putting.{puts_then, puts_failed}
use Rattle.malpas_literals.specs.Listing.{open_lines}
use Rattle.malpas_literals.proofs.listing.put_open.Goals as goal

pub returns-in_err-put_threat_line : goal.returns-in_err-put_threat_line
unfolding open_lines
returns-in_err-put_threat_line g c = puts_failed _ c.from_residual.ensures.0 c.in_err-put_threat_line.ensures

pub returns : goal.returns
unfolding open_lines
returns g c = puts_then c.in_ok-put_threat_line.ensures (rw c.as_slice.ensures at c.put_literals.ensures)
