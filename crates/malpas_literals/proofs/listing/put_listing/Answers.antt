use Rattle.std.proofs.Common.{codes}
use Rattle.std.specs.List.{flat_map}
use Rattle.form_text.proofs.Putting.{puts_then, puts_failed, puts_short}
use Rattle.malpas_literals.specs.Listing.{listing_text, procedure_lines}
use Rattle.malpas_literals.proofs.listing.put_listing.Goals as goal

pub returns-in_err-put : goal.returns-in_err-put
unfolding listing_text
returns-in_err-put g c = puts_failed (codes "END\n") c.from_residual.ensures.0 (puts_short (flat_map procedure_lines c.args.procedures.now) c.in_err-put.ensures)

pub returns-in_err-put_procedures : goal.returns-in_err-put_procedures
unfolding listing_text
returns-in_err-put_procedures g c = puts_failed _ c.from_residual-in_err-put_procedures.ensures.0 (puts_then c.in_ok-put.ensures c.in_err-put_procedures.ensures)

pub returns : goal.returns
unfolding listing_text
returns g c = puts_then (puts_then c.in_ok-put.ensures c.in_ok-put_procedures.ensures) c.put-2.ensures
