use Rattle.form_text.proofs.Putting.{puts_then, puts_failed}
use Rattle.report_text.specs.Tables.{tables_text}
use Rattle.report_text.proofs.tables.put_tables.Goals as goal

pub returns-in_err-put : goal.returns-in_err-put
unfolding tables_text
returns-in_err-put g c = puts_failed _ c.from_residual.ensures.0 c.in_err-put.ensures

pub returns : goal.returns
unfolding tables_text
returns g c = puts_then c.in_ok-put.ensures c.put_each_table.ensures
