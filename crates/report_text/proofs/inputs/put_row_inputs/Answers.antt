use Rattle.std.proofs.Common.{◌≡◌, ◌+◌, arith}
use Rattle.form_text.proofs.Putting.{puts_stopped, puts_next}
use Rattle.report_text.specs.Inputs.{row_input_text}
use Rattle.report_text.proofs.inputs.put_row_inputs.Goals as goal

pub returns-in-Err : goal.returns-in-Err
returns-in-Err g c =
    let n : c.loop-at.at + 1 ≡ 1 + c.loop-at.at = omega arith in
    puts_stopped (row_input_text c.args.places.now) (1) c.args.rows.now c.loop-at.at c.index-rows-at.result (c.loop-at.at + 1) n c.loop-at-test.true c.loop-at.invariant (rw c.index-rows-at.is at c.in-Err.ensures)

pub loop-at-preserved : goal.loop-at-preserved
loop-at-preserved g c =
    let n : c.loop-at.at + 1 ≡ 1 + c.loop-at.at = omega arith in
    puts_next (row_input_text c.args.places.now) (1) c.args.rows.now c.loop-at.at c.index-rows-at.result (c.loop-at.at + 1) n c.loop-at-test.true c.loop-at.invariant (rw c.index-rows-at.is at c.in-Ok.ensures)
