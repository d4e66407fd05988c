use Rattle.form_text.proofs.Putting.{puts_then, puts_failed, puts_short}
use Rattle.malpas_literals.specs.Listing.{place_line}
use Rattle.malpas_literals.proofs.listing.put_place_line.Goals as goal

pub returns-in_err-put_place_number : goal.returns-in_err-put_place_number
unfolding place_line
returns-in_err-put_place_number g c = puts_failed _ c.from_residual.ensures.0 (puts_short _ (puts_short _ (puts_short _ c.in_err-put_place_number.ensures)))

pub returns-in_err-put_end : goal.returns-in_err-put_end
unfolding place_line
returns-in_err-put_end g c = puts_failed _ c.from_residual-in_err-put_end.ensures.0 (puts_short _ (puts_short _ (puts_then c.in_ok-put_place_number.ensures c.in_err-put_end.ensures)))

pub returns-in_err-put_end-2 : goal.returns-in_err-put_end-2
unfolding place_line
returns-in_err-put_end-2 g c =
    puts_failed _ c.from_residual-in_err-put_end-2.ensures.0 (puts_short _ (puts_then (puts_then c.in_ok-put_place_number.ensures c.in_ok-put_end.ensures) c.in_err-put_end-2.ensures))

pub returns-in_err-put_place : goal.returns-in_err-put_place
unfolding place_line
returns-in_err-put_place g c =
    puts_failed _ c.from_residual-in_err-put_place.ensures.0
    (puts_then (puts_then (puts_then c.in_ok-put_place_number.ensures c.in_ok-put_end.ensures) c.in_ok-put_end-2.ensures) c.in_err-put_place.ensures)

pub returns : goal.returns
unfolding place_line
returns g c =
    puts_then (puts_then (puts_then (puts_then c.in_ok-put_place_number.ensures c.in_ok-put_end.ensures) c.in_ok-put_end-2.ensures) c.in_ok-put_place.ensures) c.put.ensures
