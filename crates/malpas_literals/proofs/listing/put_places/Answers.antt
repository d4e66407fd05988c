use Rattle.std.proofs.Common.{◌≡◌, ◌+◌, arith}
use Rattle.form_text.proofs.Putting.{puts_stopped, puts_next}
use Rattle.malpas_literals.specs.Listing.{place_line}
use Rattle.malpas_literals.proofs.listing.put_places.Goals as goal

pub returns-in-Err : goal.returns-in-Err
returns-in-Err g c =
    let n : c.loop-at.at ≡ 0 + c.loop-at.at = omega arith in
    puts_stopped (place_line c.args.places.now) 0 c.args.places.now c.loop-at.at c.index-places-at.result c.loop-at.at n c.loop-at-test.true c.loop-at.invariant (rw c.index-places-at.is at c.in-Err.ensures)

pub loop-at-preserved : goal.loop-at-preserved
loop-at-preserved g c =
    let n : c.loop-at.at ≡ 0 + c.loop-at.at = omega arith in
    puts_next (place_line c.args.places.now) 0 c.args.places.now c.loop-at.at c.index-places-at.result c.loop-at.at n c.loop-at-test.true c.loop-at.invariant (rw c.index-places-at.is at c.in-Ok.ensures)
