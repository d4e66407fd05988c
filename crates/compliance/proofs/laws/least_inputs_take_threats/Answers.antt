use Rattle.compliance.proofs.Verdicts.{least_takes}
use Rattle.compliance.proofs.laws.least_inputs_take_threats.Goals as goal

pub returns : goal.returns
returns c = λ p loops pc r s. least_takes p loops pc r s c.ways_are_steps.ensures c.least_meets_core.ensures
