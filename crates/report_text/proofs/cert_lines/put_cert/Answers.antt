use Rattle.cert_text.specs.Text.{named_of}
use Rattle.form_text.proofs.Putting.{puts_then, puts_failed, puts_as}
use Rattle.report_text.proofs.CertLines.{cert_text}
use Rattle.report_text.proofs.cert_lines.put_cert.Goals as goal

pub returns-in_err-put_head : goal.returns-in_err-put_head
returns-in_err-put_head g c = puts_as (cert_text (named_of c.args.cert.now)) (puts_failed _ c.from_residual.ensures.0 c.in_err-put_head.ensures)

pub returns : goal.returns
returns g c = puts_as (cert_text (named_of c.args.cert.now)) (puts_then c.in_ok-put_head.ensures c.put_body.ensures)
