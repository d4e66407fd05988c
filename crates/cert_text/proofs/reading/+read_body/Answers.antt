use Rattle.std.proofs.Common.{◌≡◌, ◌++◌, sym, subst, arith}
use Rattle.il_core.specs.Certificate.{certificate_of}
use Rattle.cert_text.specs.Line.{text_of}
use Rattle.cert_text.specs.LineReading.{StandsNext}
use Rattle.cert_text.specs.Text.{body_lines}
use Rattle.cert_text.specs.Progress.{IsBody}
use Rattle.cert_text.proofs.Stuck.{Opens, body_stuck, opens_here, other_opens, sum_read, sum_fails, low_fails, high_fails, split_read}
use Rattle.cert_text.proofs.reading.+read_body.Goals as goal

pub returns-in_default : goal.returns-in_default
returns-in_default t c = body_stuck c.args.room c.args.text.now (λ line after next f. c.in_default.ensures line after next)

pub returns-then-room-eq0 : goal.returns-then-room-eq0
returns-then-room-eq0 t c =
    body_stuck c.args.room c.args.text.now
    (opens_here c.args.text.now c.in-Some.behind.now c.args.room c.in-Some.line c.in-Some.ensures
    (subst (λ l. Opens c.args.room l → ⊥) (sym c.in-Split.is) (λ f. omega (arith, f, c.if-room-eq0.true))))

pub returns-in-Ok : goal.returns-in-Ok
returns-in-Ok t c =
    let next = subst (λ l. StandsNext c.args.text.now l c.in-Some.behind.now) c.in-Sum.is c.in-Some.ensures in
    sum_read c.args.room c.args.text.now c.in-Some.behind.now c.in-Ok.rest.now c.in-Ok.shares next c.in-Ok.ensures.0 c.in-Ok.ensures.1

pub returns-in-Err : goal.returns-in-Err
returns-in-Err t c =
    let next = subst (λ l. StandsNext c.args.text.now l c.in-Some.behind.now) c.in-Sum.is c.in-Some.ensures in
    sum_fails c.args.room c.args.text.now c.in-Some.behind.now c.in-Err.end next c.in-Err.ensures

pub returns-in_ok-split-in-Ok-read_body-2 : goal.returns-in_ok-split-in-Ok-read_body-2
returns-in_ok-split-in-Ok-read_body-2 t c =
    let next = subst (λ l. StandsNext c.args.text.now l c.in-Some.behind.now) c.in-Split.is c.in-Some.ensures in
    let low = c.in-Ok-read_body.ensures in
    let high = c.in-Ok-read_body-2.ensures in
    subst (λ body. IsBody c.args.room body × (c.args.text.now ≡ text_of (body_lines body) ++ c.in-Ok-read_body-2.rest.now)) (sym c.in_ok-split-in-Ok-read_body-2.ensures)
    (split_read c.args.room c.in-Split.literal c.args.text.now c.in-Some.behind.now c.in-Ok-read_body.between.now c.in-Ok-read_body-2.rest.now
    (certificate_of c.in-Ok-read_body.low) (certificate_of c.in-Ok-read_body-2.high) (omega (arith, c.if-room-eq0.false)) next low.0 low.1 high.0 high.1)

pub returns-in-Err-read_body-2 : goal.returns-in-Err-read_body-2
returns-in-Err-read_body-2 t c =
    let next = subst (λ l. StandsNext c.args.text.now l c.in-Some.behind.now) c.in-Split.is c.in-Some.ensures in
    let low = c.in-Ok-read_body.ensures in
    high_fails c.args.room c.in-Split.literal (certificate_of c.in-Ok-read_body.low) c.args.text.now c.in-Some.behind.now c.in-Ok-read_body.between.now c.in-Err-read_body-2.end
    (omega (arith, c.if-room-eq0.false)) next low.0 low.1 c.in-Err-read_body-2.ensures

pub returns-in-Err-read_body : goal.returns-in-Err-read_body
returns-in-Err-read_body t c =
    let next = subst (λ l. StandsNext c.args.text.now l c.in-Some.behind.now) c.in-Split.is c.in-Some.ensures in
    low_fails c.args.room c.in-Split.literal c.args.text.now c.in-Some.behind.now c.in-Err-read_body.end (omega (arith, c.if-room-eq0.false)) next c.in-Err-read_body.ensures

pub returns-in_default-line : goal.returns-in_default-line
returns-in_default-line t c =
    body_stuck c.args.room c.args.text.now
    (opens_here c.args.text.now c.in-Some.behind.now c.args.room c.in-Some.line c.in-Some.ensures
    (other_opens c.args.room c.in-Some.line c.in_default-line.not-Sum c.in_default-line.not-Split))
