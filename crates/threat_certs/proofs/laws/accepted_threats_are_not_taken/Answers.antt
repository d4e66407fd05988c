use Rattle.threat_certs.proofs.Accepted.{accepted-unmet}
use Rattle.semantic_tables.specs.Row.{forms_of}
use Rattle.threat_certs.proofs.laws.accepted_threats_are_not_taken.Goals as goal

-- who takes the threat meets its literals
pub returns : goal.returns
returns c = λ p loops pc r cert b t a s i taken. accepted-unmet p.places pc (forms_of r) cert a s ((c.threats_are_taken_where_met.ensures p loops pc r s b t i).1 taken)
