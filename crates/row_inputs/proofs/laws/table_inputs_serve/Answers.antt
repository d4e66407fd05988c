use Rattle.row_inputs.proofs.Served.{serve}
use Rattle.row_inputs.proofs.laws.table_inputs_serve.Goals as goal

pub returns : goal.returns
returns c = λ p loops pc rows os. serve p loops pc rows os c.test_inputs_lead_to_stops.ensures c.easy_rows_have_inputs.ensures
