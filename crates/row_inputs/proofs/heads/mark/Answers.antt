use Rattle.row_inputs.proofs.Marked.{set_mark, past_mark}
use Rattle.row_inputs.proofs.heads.mark.Goals as goal

pub returns-then-line-marks-clause-each : goal.returns-then-line-marks-clause-each
returns-then-line-marks-clause-each c = λ at b e. set_mark c.args.marks.now c.args.line at b e

pub returns-else-line-marks-clause-each : goal.returns-else-line-marks-clause-each
returns-else-line-marks-clause-each c = λ at b e. past_mark c.args.marks.now c.args.line at b c.if-line-marks.false e
