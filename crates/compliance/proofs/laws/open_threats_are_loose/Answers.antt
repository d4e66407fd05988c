use Rattle.compliance.proofs.Verdicts.{open_named}
use Rattle.compliance.proofs.laws.open_threats_are_loose.Goals as goal

pub returns : goal.returns
returns c = λ p loops pc r s. open_named p loops pc r s c.ways_are_steps.ensures c.unmet_is_loose.ensures
