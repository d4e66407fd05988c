use Rattle.cert_text.specs.Line.{text_of}
use Rattle.cert_text.specs.Text.{cert_lines, named_of}
use Rattle.il_core.specs.declared.certificate.NamedCert.{NamedCert}
use Rattle.form_text.proofs.Putting.{puts_broken, puts_more}
use Rattle.report_text.proofs.cert_lines.put_each_cert.Goals as goal

pub returns-in-Err : goal.returns-in-Err
returns-in-Err g c = puts_broken (λ (x : NamedCert). text_of (cert_lines (named_of x))) c.args.certs.now c.loop-cert.cert-index c.cert-item.result c.loop-cert-test.true c.loop-cert.invariant (rw c.cert-item.is at c.in-Err.ensures)

pub loop-cert-preserved : goal.loop-cert-preserved
loop-cert-preserved g c = puts_more (λ (x : NamedCert). text_of (cert_lines (named_of x))) c.args.certs.now c.loop-cert.cert-index c.cert-item.result c.loop-cert-test.true c.loop-cert.invariant (rw c.cert-item.is at c.in-Ok.ensures)
