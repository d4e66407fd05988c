use Rattle.std.proofs.Common.{◌≡◌, ◌+◌, arith}
use Rattle.form_text.proofs.Putting.{puts_stopped, puts_next}
use Rattle.malpas_literals.specs.Listing.{threat_lines}
use Rattle.malpas_literals.proofs.listing.put_told.Goals as goal

pub returns-in-Err : goal.returns-in-Err
returns-in-Err g c =
    let n : c.loop-at.at + 1 ≡ 1 + c.loop-at.at = omega arith in
    puts_stopped (threat_lines c.args.places.now) 1 c.args.threats.now c.loop-at.at c.index-threats-at.result (c.loop-at.at + 1) n c.loop-at-test.true c.loop-at.invariant (rw c.index-threats-at.is at c.in-Err.ensures)

pub loop-at-preserved : goal.loop-at-preserved
loop-at-preserved g c =
    let n : c.loop-at.at + 1 ≡ 1 + c.loop-at.at = omega arith in
    puts_next (threat_lines c.args.places.now) 1 c.args.threats.now c.loop-at.at c.index-threats-at.result (c.loop-at.at + 1) n c.loop-at-test.true c.loop-at.invariant (rw c.index-threats-at.is at c.in-Ok.ensures)
