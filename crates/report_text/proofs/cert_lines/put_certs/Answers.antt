use Rattle.form_text.proofs.Putting.{puts_as}
use Rattle.report_text.proofs.CertLines.{each_text}
use Rattle.report_text.proofs.cert_lines.put_certs.Goals as goal

pub returns : goal.returns
returns g c = puts_as (each_text c.args.certs.now) c.put_each_cert.ensures
