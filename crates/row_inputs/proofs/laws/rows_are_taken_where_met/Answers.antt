use Rattle.row_inputs.proofs.Taking.{row_taken, row_met}
use Rattle.row_inputs.proofs.laws.rows_are_taken_where_met.Goals as goal

pub returns : goal.returns
returns c = λ p loops pc r s b k i. (
  row_taken p loops pc r s c.ways_are_steps.ensures b k,
  row_met p loops pc r s c.ways_are_steps.ensures c.inputs_take_one_path.ensures c.decisions_tell_paths.ensures b k i,
)
