use Rattle.std.proofs.Common.{◌≡◌, ◌+◌, arith}
use Rattle.report_text.specs.Sections.{level_text}
use Rattle.form_text.proofs.Written.{numbered_next, prefix_numbered}
use Rattle.form_text.proofs.Steps.{so_far_more}
use Rattle.report_text.proofs.control.put_levels.Goals as goal

pub returns-in-Err-clause-text : goal.returns-in-Err-clause-text
returns-in-Err-clause-text g c =
    let n : c.loop-at.at ≡ 0 + c.loop-at.at = omega arith in
    prefix_numbered level_text 0 c.args.levels.now c.loop-at.at c.index-levels-at.result c.loop-at.at _ _ _ n c.loop-at-test.true c.loop-at.invariant.wrote
    (rw c.index-levels-at.is at c.in-Err.ensures.text)

pub loop-at-preserved : goal.loop-at-preserved
loop-at-preserved g c =
    let n : c.loop-at.at ≡ 0 + c.loop-at.at = omega arith in
    so_far_more _ _ _ _ _ _ _ _ _ _ _ _ _ c.loop-at.invariant (rw c.index-levels-at.is at c.in-Ok.ensures.text) c.in-Ok.ensures.told c.in-Ok.ensures.settled
    c.in-Ok.ensures.cause (numbered_next level_text 0 c.args.levels.now c.loop-at.at c.index-levels-at.result c.loop-at.at n c.loop-at-test.true)
