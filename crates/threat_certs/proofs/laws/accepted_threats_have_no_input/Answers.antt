use Rattle.threat_certs.proofs.Accepted.{accepted-unmet}
use Rattle.threat_certs.proofs.laws.accepted_threats_have_no_input.Goals as goal

pub returns : goal.returns
returns c = accepted-unmet
