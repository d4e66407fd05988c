use Rattle.malpas.proofs.Inputs as inputs
use Rattle.malpas.proofs.input.one_input.Goals as goal

pub returns : goal.returns
returns c = inputs.one_input c.one_answer.ensures c.one_reading.ensures
