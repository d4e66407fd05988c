use Rattle.form_text.proofs.Putting.{puts_broken, puts_more}
use Rattle.malpas_literals.specs.Listing.{procedure_lines}
use Rattle.malpas_literals.proofs.listing.put_procedures.Goals as goal

pub returns-in-Err : goal.returns-in-Err
returns-in-Err g c =
    puts_broken procedure_lines c.args.procedures.now c.loop-procedure.procedure-index c.procedure-item.result c.loop-procedure-test.true c.loop-procedure.invariant
    (rw c.procedure-item.is at c.in-Err.ensures)

pub loop-procedure-preserved : goal.loop-procedure-preserved
loop-procedure-preserved g c =
    puts_more procedure_lines c.args.procedures.now c.loop-procedure.procedure-index c.procedure-item.result c.loop-procedure-test.true c.loop-procedure.invariant
    (rw c.procedure-item.is at c.in-Ok.ensures)
