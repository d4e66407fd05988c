use Rattle.std.proofs.Common.{map}
use Rattle.std.specs.List.{flat_map}
use Rattle.cert_text.specs.Text.{certs_text, named_of}
use Rattle.form_text.proofs.Putting.{puts_then, puts_failed, puts_short}
use Rattle.report_text.specs.Certificates.{certificates_text, read_text}
use Rattle.report_text.proofs.certificates.put_certificates.Goals as goal

pub returns-in_err-put : goal.returns-in_err-put
unfolding certificates_text
returns-in_err-put g c = puts_failed (certs_text (map named_of c.args.made.now)) c.from_residual.ensures.0 (puts_short (flat_map read_text c.args.rows.now) c.in_err-put.ensures)

pub returns-in_err-put_rows : goal.returns-in_err-put_rows
unfolding certificates_text
returns-in_err-put_rows g c = puts_failed _ c.from_residual-in_err-put_rows.ensures.0 (puts_then c.in_ok-put.ensures c.in_err-put_rows.ensures)

pub returns : goal.returns
unfolding certificates_text
returns g c = puts_then (puts_then c.in_ok-put.ensures c.in_ok-put_rows.ensures) c.put_certs.ensures
