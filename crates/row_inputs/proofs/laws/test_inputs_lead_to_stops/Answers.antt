use Rattle.row_inputs.proofs.Taking.{row_steps}
use Rattle.row_inputs.proofs.laws.test_inputs_lead_to_stops.Goals as goal

pub returns : goal.returns
returns c = λ p loops pc r s b k t.
    row_steps p loops pc r s c.ways_are_steps.ensures c.inputs_take_one_path.ensures c.decisions_tell_paths.ensures c.normal_terms_keep_values.ensures b k t.0.met.input t.1
