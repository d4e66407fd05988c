use Rattle.std.proofs.Common.{append-nil}
use Rattle.form_text.proofs.Putting.{puts_broken, puts_more}
use Rattle.report_text.specs.Path.{letter}
use Rattle.report_text.proofs.stops.put_letters.Goals as goal

pub returns-in-Err : goal.returns-in-Err
returns-in-Err g c = puts_broken letter c.args.path.now c.loop-decision.decision-index _ c.loop-decision-test.true c.loop-decision.invariant (rw (append-nil, c.letter_of.ensures) at c.in-Err.ensures)

pub loop-decision-preserved : goal.loop-decision-preserved
loop-decision-preserved g c = puts_more letter c.args.path.now c.loop-decision.decision-index _ c.loop-decision-test.true c.loop-decision.invariant (rw (append-nil, c.letter_of.ensures) at c.in-Ok.ensures)
