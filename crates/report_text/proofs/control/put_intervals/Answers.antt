use Rattle.report_text.specs.Sections.{interval_text}
use Rattle.form_text.proofs.Written.{prefix_among}
use Rattle.report_text.proofs.control.put_intervals.Goals as goal

pub returns-in-Err-clause-text : goal.returns-in-Err-clause-text
returns-in-Err-clause-text g c = prefix_among interval_text c.args.intervals.now c.loop-interval.interval-index c.interval-item.result _ _ _ c.loop-interval-test.true c.loop-interval.invariant.wrote (rw c.interval-item.is at c.in-Err.ensures.text)
