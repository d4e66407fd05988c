use Rattle.threat_certs.proofs.Single.{one-quantity}
use Rattle.threat_certs.proofs.laws.one_quantity.Goals as goal

pub returns : goal.returns
returns c = one-quantity
