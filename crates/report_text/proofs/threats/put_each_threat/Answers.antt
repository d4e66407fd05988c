use Rattle.std.proofs.Common.{◌≡◌, ◌+◌, arith}
use Rattle.form_text.proofs.Putting.{puts_stopped, puts_next}
use Rattle.report_text.specs.Threats.{threat_text}
use Rattle.report_text.proofs.threats.put_each_threat.Goals as goal

pub returns-in-Err : goal.returns-in-Err
returns-in-Err g c =
    let n : c.args.before + c.loop-at.at + 1 ≡ (c.args.before + 1) + c.loop-at.at = omega arith in
    puts_stopped (threat_text c.args.places.now) ((c.args.before + 1)) c.args.threats.now c.loop-at.at c.index-threats-at.result (c.args.before + c.loop-at.at + 1) n c.loop-at-test.true c.loop-at.invariant (rw c.index-threats-at.is at c.in-Err.ensures)

pub loop-at-preserved : goal.loop-at-preserved
loop-at-preserved g c =
    let n : c.args.before + c.loop-at.at + 1 ≡ (c.args.before + 1) + c.loop-at.at = omega arith in
    puts_next (threat_text c.args.places.now) ((c.args.before + 1)) c.args.threats.now c.loop-at.at c.index-threats-at.result (c.args.before + c.loop-at.at + 1) n c.loop-at-test.true c.loop-at.invariant (rw c.index-threats-at.is at c.in-Ok.ensures)
