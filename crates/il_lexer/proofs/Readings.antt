-- A text has one reading.
use Rattle.std.proofs.Common.{Option, Some, None, Result, Ok, Err, ◌≡◌, ℕ, List, refl, sym, ap, ◌∙◌, subst}
use Rattle.il_core.specs.declared.token.Token.{Token}
use Rattle.il_core.specs.declared.refusal.Code.{Code}
use Rattle.il_core.specs.declared.refusal.Code.TheVariants.{NotAscii, Lexical, Number}
use Rattle.il_core.specs.declared.refusal.Refusal.{Refusal}
use Rattle.il_lexer.specs.Limit.{IsFirstExcess}
use Rattle.il_lexer.specs.Reading.{high_place, IsRefusedAt, IsReading}
use Rattle.il_lexer.proofs.Cuts.{same_tokens, tokens_stuck, same_stuck}
use Rattle.il_lexer.proofs.Excess.{limits_excess, same_excess}

-- a first byte above 127 is there or not
high_both : (text : List ℕ) (place : ℕ) → high_place text ≡ None → high_place text ≡ Some place → ⊥
high_both text place n s = let z : ◌≡◌ {A = Option ℕ} None (Some place) = sym n ∙ s in cc

-- a text that reads as tokens is not refused
tokens_refused : (text : List ℕ) (tokens : List Token) (code : Code) (place : ℕ) → IsReading text (Ok tokens) → IsRefusedAt text code place → ⊥
tokens_refused text tokens NotAscii place t r = high_both text place t.0 r
tokens_refused text tokens Lexical place t r = tokens_stuck text tokens place t.1 r.1
tokens_refused text tokens Number place t r =
    let e = same_tokens text tokens r.1.0 t.1 r.1.1 in
    limits_excess tokens place t.2 (subst (λ x. IsFirstExcess x place) (sym e) r.1.2)
tokens_refused text tokens _ place t r = r

-- a text is refused once
same_refused : (text : List ℕ) (c d : Code) (p q : ℕ) → IsRefusedAt text c p → IsRefusedAt text d q → (c ≡ d) × (p ≡ q)
same_refused text NotAscii NotAscii p q s t = (refl, (let e : ◌≡◌ {A = Option ℕ} (Some p) (Some q) = sym s ∙ t in cc))
same_refused text NotAscii Lexical p q s t = absurd (high_both text p t.0 s)
same_refused text NotAscii Number p q s t = absurd (high_both text p t.0 s)
same_refused text Lexical NotAscii p q s t = absurd (high_both text q s.0 t)
same_refused text Lexical Lexical p q s t = (refl, same_stuck text p q s.1 t.1)
same_refused text Lexical Number p q s t = absurd (tokens_stuck text t.1.0 p t.1.1 s.1)
same_refused text Number NotAscii p q s t = absurd (high_both text q s.0 t)
same_refused text Number Lexical p q s t = absurd (tokens_stuck text s.1.0 q s.1.1 t.1)
same_refused text Number Number p q s t =
    let e = same_tokens text s.1.0 t.1.0 s.1.1 t.1.1 in
    (refl, same_excess t.1.0 p q (subst (λ x. IsFirstExcess x p) e s.1.2) t.1.2)
same_refused text NotAscii _ p q s t = absurd t
same_refused text Lexical _ p q s t = absurd t
same_refused text Number _ p q s t = absurd t
same_refused text _ d p q s t = absurd s

-- equal parts make equal refusals
same_refusal : (r s : Refusal) → r.code ≡ s.code → r.place ≡ s.place → r.name ≡ s.name → r ≡ s
same_refusal r s c p n =
    let made : Code → ℕ → Option (List ℕ) → Refusal = λ code place name. record { code = code; place = place; name = name } in
    ap (λ x. made x r.place r.name) c ∙ ap (λ x. made s.code x r.name) p ∙ ap (λ x. made s.code s.place x) n

-- a text has one reading
pub same_reading : (text : List ℕ) (a b : Result (List Token) Refusal) → IsReading text a → IsReading text b → a ≡ b
same_reading text (Ok a) (Ok b) s t = ap Ok (same_tokens text a b s.1 t.1)
same_reading text (Ok a) (Err r) s t = absurd (tokens_refused text a r.code r.place s t.0)
same_reading text (Err q) (Ok b) s t = absurd (tokens_refused text b q.code q.place t s.0)
same_reading text (Err q) (Err r) s t =
    let e = same_refused text q.code r.code q.place r.place s.0 t.0 in
    ap Err (same_refusal q r e.0 e.1 (s.1 ∙ sym t.1))
