use Rattle.std.proofs.Common.{◌≡◌, ℕ, true, false, List, [], sym, ◌∙◌, ap, arith}
use Rattle.std.specs.Prelude.{decimal, bytes_eq}
use Rattle.std.proofs.lemmas.Slice.Eq.{bytes_eq-Decides}
use Rattle.request.proofs.Numbers.{to_find, not_parsed}
use Rattle.request.proofs.number.number_of.Goals as goal
use Rattle.request.proofs.number.number_of.Goals.{else-number-ge1-via-then-number-ge1+then-number-le-GREATEST+else-eq, else-number-ge1-via-then-number-ge1+else-number-le-GREATEST, else-number-ge1-via-else-number-ge1}

pub returns-then-eq : goal.returns-then-eq
returns-then-eq c =
    let same = (bytes_eq-Decides c.format.result.now c.args.digits.now).0 (sym c.eq.ensures ∙ c.if-eq.true) in
    sym (to_find [] c.args.digits.now c.in-Ok.number (sym same ∙ c.format.ensures.text) (c.if-number-ge1.true, c.if-number-le-GREATEST.true))

pub returns-in-Err : goal.returns-in-Err
returns-in-Err c = not_parsed c.args.digits.now c.parse.result c.parse.ensures.value.0 (λ n e least most is. let f = sym c.in-Err.is ∙ e in cc)

-- texts that are told apart differ
differ : (a b text : List ℕ) → a ≡ text → bytes_eq a b ≡ false → text ≡ b → ⊥
differ a b text e f g = let t : bytes_eq a b ≡ true = (bytes_eq-Decides a b).1 (e ∙ g) in cc

pub returns-else-number-ge1 : goal.returns-else-number-ge1
returns-else-number-ge1 c = not_parsed c.args.digits.now c.parse.result c.parse.ensures.value.0 (λ n e least most is.
    let f = sym c.in-Ok.is ∙ e in
    let same : c.in-Ok.number ≡ n = cc in
    elim c.else-number-ge1.branch [
      | else-number-ge1-via-then-number-ge1+then-number-le-GREATEST+else-eq w ↦
          differ w.format.result.now c.args.digits.now (decimal n) (w.format.ensures.text ∙ ap decimal same) (sym w.eq.ensures ∙ w.if-eq.false) is
      | else-number-ge1-via-then-number-ge1+else-number-le-GREATEST w ↦ absurd (omega arith)
      | else-number-ge1-via-else-number-ge1 w ↦ absurd (omega arith)
    ])
