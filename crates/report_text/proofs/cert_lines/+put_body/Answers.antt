use Rattle.il_core.specs.Certificate.{certificate_of}
use Rattle.cert_text.specs.Line.{text_of}
use Rattle.cert_text.specs.Text.{body_lines}
use Rattle.form_text.proofs.Putting.{puts_then, puts_failed, puts_short, puts_as}
use Rattle.report_text.proofs.CertLines.{split_text}
use Rattle.report_text.proofs.cert_lines.+put_body.Goals as goal

pub returns-in_err-put_split-in-Split : goal.returns-in_err-put_split-in-Split
returns-in_err-put_split-in-Split g t c =
    let low = certificate_of c.in-Split.low.value in
    let high = certificate_of c.in-Split.high.value in
    rw c.in-Split.is
    (puts_as (split_text c.in-Split.literal low high)
    (puts_failed {b = c.put_split.new.sink} (text_of (body_lines high)) c.from_residual.ensures.0 (puts_short (text_of (body_lines low)) c.in_err-put_split-in-Split.ensures)))

pub returns-in_err-put_body-in-Split : goal.returns-in_err-put_body-in-Split
returns-in_err-put_body-in-Split g t c =
    let low = certificate_of c.in-Split.low.value in
    let high = certificate_of c.in-Split.high.value in
    rw c.in-Split.is
    (puts_as (split_text c.in-Split.literal low high)
    (puts_failed {b = c.put_body.new.sink} (text_of (body_lines high)) c.from_residual-in_err-put_body-in-Split.ensures.0
    (puts_then c.in_ok-put_split-in-Split.ensures (rw c.deref.ensures at c.in_err-put_body-in-Split.ensures))))

pub returns-in_ok-put_body-in-Split : goal.returns-in_ok-put_body-in-Split
returns-in_ok-put_body-in-Split g t c =
    let low = certificate_of c.in-Split.low.value in
    let high = certificate_of c.in-Split.high.value in
    rw c.in-Split.is
    (puts_as (split_text c.in-Split.literal low high)
    (puts_then (puts_then c.in_ok-put_split-in-Split.ensures (rw c.deref.ensures at c.in_ok-put_body-in-Split.ensures))
    (rw c.deref-in-Split.ensures at c.put_body-in-Split.ensures)))
