use Rattle.std.proofs.Common.{◌≡◌, true, sym, ◌∙◌, ap, arith}
use Rattle.std.specs.Prelude.{decimal, bytes_eq}
use Rattle.std.proofs.lemmas.Fmt.{parse-decimal}
use Rattle.std.proofs.lemmas.Slice.Eq.{bytes_eq-Decides}
use Rattle.cert_text.proofs.Numbers.{number_found, not_number, digits_utf8}
use Rattle.cert_text.proofs.line.number.Goals as goal
use Rattle.cert_text.proofs.line.number.Goals.{else-number-most-via-then-number-most+else-eq, else-number-most-via-else-number-most}

pub returns-in-Err : goal.returns-in-Err
returns-in-Err c = not_number c.args.most c.args.digits.now (λ n h e. c.in-Err.ensures.cases.0 (digits_utf8 n c.args.digits.now (omega arith) e))

pub returns-in-Err-parse : goal.returns-in-Err-parse
returns-in-Err-parse c = not_number c.args.most c.args.digits.now (λ n h e.
    let f = parse-decimal 32 n c.in-Ok.text.now c.parse.result (omega arith) (omega arith) (c.in-Ok.ensures.cases.0 ∙ sym e) c.parse.ensures.value.0 in
    let g = sym c.in-Err-parse.is ∙ f in cc)

pub returns-then-eq : goal.returns-then-eq
returns-then-eq c =
    let same = (bytes_eq-Decides c.format.result.now c.in-Ok.text.now).0 (sym c.eq.ensures ∙ c.if-eq.true) in
    sym (number_found c.args.most c.in-Ok-parse.number c.args.digits.now (omega arith) c.if-number-most.true (sym c.format.ensures.text ∙ same ∙ c.in-Ok.ensures.cases.0))

pub returns-else-number-most : goal.returns-else-number-most
returns-else-number-most c = not_number c.args.most c.args.digits.now (λ n h e.
    let f = parse-decimal 32 n c.in-Ok.text.now c.parse.result (omega arith) (omega arith) (c.in-Ok.ensures.cases.0 ∙ sym e) c.parse.ensures.value.0 in
    let g = sym c.in-Ok-parse.is ∙ f in
    let same : c.in-Ok-parse.number ≡ n = cc in
    elim c.else-number-most.branch [
      | else-number-most-via-then-number-most+else-eq w ↦
          (let t : bytes_eq w.format.result.now c.in-Ok.text.now ≡ true = (bytes_eq-Decides w.format.result.now c.in-Ok.text.now).1 (w.format.ensures.text ∙ ap decimal same ∙ e ∙ sym c.in-Ok.ensures.cases.0) in
          let u = sym w.eq.ensures ∙ w.if-eq.false in cc)
      | else-number-most-via-else-number-most w ↦ absurd (omega arith)
    ])
