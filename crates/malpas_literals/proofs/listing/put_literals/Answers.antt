use Rattle.std.proofs.Common.{◌≡◌, ◌+◌, arith}
use Rattle.form_text.proofs.Putting.{puts_stopped, puts_next}
use Rattle.malpas_literals.specs.Listing.{literal_line}
use Rattle.malpas_literals.proofs.listing.put_literals.Goals as goal

pub returns-in-Err : goal.returns-in-Err
returns-in-Err g c =
    let n : c.loop-at.at ≡ 0 + c.loop-at.at = omega arith in
    puts_stopped (literal_line c.args.places.now) 0 c.args.literals.now c.loop-at.at c.index-literals-at.result c.loop-at.at n c.loop-at-test.true c.loop-at.invariant (rw c.index-literals-at.is at c.in-Err.ensures)

pub loop-at-preserved : goal.loop-at-preserved
loop-at-preserved g c =
    let n : c.loop-at.at ≡ 0 + c.loop-at.at = omega arith in
    puts_next (literal_line c.args.places.now) 0 c.args.literals.now c.loop-at.at c.index-literals-at.result c.loop-at.at n c.loop-at-test.true c.loop-at.invariant (rw c.index-literals-at.is at c.in-Ok.ensures)
