use Rattle.compliance.proofs.Taking.{threat_taken}
use Rattle.compliance.proofs.TakenBack.{threat_met}
use Rattle.compliance.proofs.laws.threats_are_taken_where_met.Goals as goal

pub returns : goal.returns
returns c = λ p loops pc r s b k i. (threat_taken p loops pc r s c.ways_are_steps.ensures b k, threat_met p loops pc r s c.ways_are_steps.ensures b k i)
