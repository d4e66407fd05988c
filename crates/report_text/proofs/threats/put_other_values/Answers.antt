use Rattle.std.proofs.Common.{◌≡◌, ◌+◌, arith}
use Rattle.form_text.proofs.Putting.{puts_stopped, puts_next}
use Rattle.report_text.specs.Threats.{other_text}
use Rattle.report_text.proofs.threats.put_other_values.Goals as goal

pub returns-in-Err : goal.returns-in-Err
returns-in-Err g c =
    let n : c.loop-at.at + 1 ≡ 1 + c.loop-at.at = omega arith in
    puts_stopped (other_text c.args.places.now) (1) c.args.values.now c.loop-at.at _ (c.loop-at.at + 1) n c.loop-at-test.true c.loop-at.invariant c.in-Err.ensures

pub loop-at-preserved : goal.loop-at-preserved
loop-at-preserved g c =
    let n : c.loop-at.at + 1 ≡ 1 + c.loop-at.at = omega arith in
    puts_next (other_text c.args.places.now) (1) c.args.values.now c.loop-at.at _ (c.loop-at.at + 1) n c.loop-at-test.true c.loop-at.invariant c.in-Ok.ensures
