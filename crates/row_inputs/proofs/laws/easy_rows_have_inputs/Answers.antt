use Rattle.row_inputs.proofs.Rows.{easy_has}
use Rattle.row_inputs.proofs.laws.easy_rows_have_inputs.Goals as goal

pub returns : goal.returns
returns c = λ p loops pc r o. easy_has p loops pc r o c.ways_are_steps.ensures c.least_meets_core.ensures
