use Rattle.std.proofs.Common.{◌≡◌, ◌+◌, arith}
use Rattle.form_text.proofs.Putting.{puts_stopped, puts_next}
use Rattle.report_text.specs.Tables.{value_line}
use Rattle.report_text.proofs.tables.put_value_lines.Goals as goal

pub returns-in-Err : goal.returns-in-Err
returns-in-Err g c =
    let n : c.loop-at.at ≡ 0 + c.loop-at.at = omega arith in
    puts_stopped (value_line c.args.places.now) (0) c.args.values.now c.loop-at.at c.index-values-at.result (c.loop-at.at) n c.loop-at-test.true c.loop-at.invariant (rw c.index-values-at.is at c.in-Err.ensures)

pub loop-at-preserved : goal.loop-at-preserved
loop-at-preserved g c =
    let n : c.loop-at.at ≡ 0 + c.loop-at.at = omega arith in
    puts_next (value_line c.args.places.now) (0) c.args.values.now c.loop-at.at c.index-values-at.result (c.loop-at.at) n c.loop-at-test.true c.loop-at.invariant (rw c.index-values-at.is at c.in-Ok.ensures)
