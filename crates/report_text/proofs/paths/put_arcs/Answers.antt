use Rattle.std.proofs.Common.{◌≡◌, ◌+◌, arith}
use Rattle.report_text.specs.Sections.{arc_text}
use Rattle.form_text.proofs.Steps.{so_far_more}
use Rattle.form_text.proofs.Written.{numbered_next, prefix_numbered}
use Rattle.report_text.proofs.paths.put_arcs.Goals as goal

pub returns-in-Err-clause-text : goal.returns-in-Err-clause-text
returns-in-Err-clause-text g c =
    let n : c.loop-at.at + 1 ≡ 1 + c.loop-at.at = omega arith in
    prefix_numbered arc_text 1 c.args.arcs.now c.loop-at.at _ _ _ _ _ n c.loop-at-test.true c.loop-at.invariant.wrote c.in-Err.ensures.text

pub loop-at-preserved : goal.loop-at-preserved
loop-at-preserved g c =
    let n : c.loop-at.at + 1 ≡ 1 + c.loop-at.at = omega arith in
    so_far_more _ _ _ _ _ _ _ _ _ _ _ _ _ c.loop-at.invariant c.in-Ok.ensures.text c.in-Ok.ensures.told c.in-Ok.ensures.settled c.in-Ok.ensures.cause
    (numbered_next arc_text 1 c.args.arcs.now c.loop-at.at _ _ n c.loop-at-test.true)
