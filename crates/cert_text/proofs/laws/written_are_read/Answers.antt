use Rattle.cert_text.proofs.Bad.{written_read}
use Rattle.cert_text.proofs.laws.written_are_read.Goals as goal

pub returns : goal.returns
returns c = written_read
