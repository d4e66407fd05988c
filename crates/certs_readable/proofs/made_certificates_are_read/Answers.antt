use Rattle.certs_readable.proofs.Readable.{made_read}
use Rattle.certs_readable.proofs.made_certificates_are_read.Goals as goal

pub returns : goal.returns
returns c = made_read
