use Rattle.cert_text.proofs.Bad.{one_reading}
use Rattle.cert_text.proofs.laws.one_reading.Goals as goal

pub returns : goal.returns
returns c = one_reading
