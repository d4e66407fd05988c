use Rattle.form_text.proofs.Putting.{puts_broken, puts_more}
use Rattle.report_text.specs.Tables.{literal_line}
use Rattle.report_text.proofs.tables.put_literal_lines.Goals as goal

pub returns-in-Err : goal.returns-in-Err
returns-in-Err g c = puts_broken (literal_line c.args.places.now) c.args.literals.now c.loop-literal.literal-index c.literal-item.result c.loop-literal-test.true c.loop-literal.invariant (rw c.literal-item.is at c.in-Err.ensures)

pub loop-literal-preserved : goal.loop-literal-preserved
loop-literal-preserved g c = puts_more (literal_line c.args.places.now) c.args.literals.now c.loop-literal.literal-index c.literal-item.result c.loop-literal-test.true c.loop-literal.invariant (rw c.literal-item.is at c.in-Ok.ensures)
