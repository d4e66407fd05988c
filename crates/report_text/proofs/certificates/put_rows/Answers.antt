use Rattle.std.proofs.Common.{false}
use Rattle.form_text.proofs.Putting.{puts_broken, puts_more}
use Rattle.report_text.specs.Certificates.{read_text}
use Rattle.report_text.proofs.certificates.put_rows.Goals as goal

pub returns-in-Err : goal.returns-in-Err
returns-in-Err g c = puts_broken read_text c.args.rows.now c.loop-row.row-index (record { threat = 0; holds = false }) c.loop-row-test.true c.loop-row.invariant c.in-Err.ensures

pub loop-row-preserved : goal.loop-row-preserved
loop-row-preserved g c = puts_more read_text c.args.rows.now c.loop-row.row-index (record { threat = 0; holds = false }) c.loop-row-test.true c.loop-row.invariant c.in-Ok.ensures
