use Rattle.report_text.specs.Sections.{loop_text}
use Rattle.form_text.proofs.Written.{prefix_among}
use Rattle.report_text.proofs.control.put_loops.Goals as goal

pub returns-in-Err-clause-text : goal.returns-in-Err-clause-text
returns-in-Err-clause-text g c = prefix_among loop_text c.args.loops.now c.loop-info.info-index c.info-item.result _ _ _ c.loop-info-test.true c.loop-info.invariant.wrote (rw c.info-item.is at c.in-Err.ensures.text)
