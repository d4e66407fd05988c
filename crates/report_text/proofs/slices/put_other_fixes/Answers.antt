use Rattle.std.proofs.Common.{false, codes, ◌++◌}
use Rattle.flow_slice.specs.declared.sliced.Fixed.{Fixed}
use Rattle.form_text.proofs.Putting.{puts_broken, puts_more}
use Rattle.report_text.specs.Slices.{fixed_text}
use Rattle.report_text.proofs.slices.put_other_fixes.Goals as goal

pub returns-in-Err : goal.returns-in-Err
returns-in-Err g c = puts_broken (λ (f : Fixed). codes " " ++ fixed_text f) c.args.fixes.now c.loop-fixed.fixed-index (record { line = 0; taken = false }) c.loop-fixed-test.true c.loop-fixed.invariant c.in-Err.ensures

pub loop-fixed-preserved : goal.loop-fixed-preserved
loop-fixed-preserved g c = puts_more (λ (f : Fixed). codes " " ++ fixed_text f) c.args.fixes.now c.loop-fixed.fixed-index (record { line = 0; taken = false }) c.loop-fixed-test.true c.loop-fixed.invariant c.in-Ok.ensures
