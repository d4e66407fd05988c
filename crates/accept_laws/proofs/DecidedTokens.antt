-- Each text has its tokens within the limits of numbers, or is refused for its bytes, its tokens or its numbers.
use Rattle.std.proofs.Common.{Option, Some, None, Result, Ok, Err, ◌≡◌, ◌⊎◌, ℕ, zero, suc, ◌+◌, ◌-◌, ◌<◌, ◌≤◌, Bool, true, false, List, [], ◌∷◌, length, take, drop, refl, sym, ap, ◌∙◌, subst, arith, inl, inr, slice_get, nat_lt, position, eqb}
use Rattle.std.specs.Option.{option_map}
use Rattle.std.proofs.lemmas.Bool.{eqb-true, eqb-false, cases_order}
use Rattle.std.proofs.lemmas.List.{length-drop}
use Rattle.std.proofs.lemmas.List.Quantifiers.{position-Some}
use Rattle.std.proofs.lemmas.Option.{slice_get_within}
use Rattle.il_core.specs.Name.{starts_with_letter}
use Rattle.il_core.specs.declared.refusal.Code.TheVariants.{NotAscii, Lexical, Number}
use Rattle.il_core.specs.declared.refusal.Refusal.{Refusal}
use Rattle.il_core.specs.declared.token.Token.{Token}
use Rattle.il_core.specs.declared.token.TokenKind.{TokenKind}
use Rattle.il_core.specs.declared.token.TokenKind.TheVariants as kind
use Rattle.il_lexer.specs.Cut.{Cuts, tokens_from, AreTokens}
use Rattle.il_lexer.specs.Limit.{limit_at, IsWithin, IsAbove, AreWithinLimits, IsFirstExcess}
use Rattle.il_lexer.specs.Reading.{high_place, IsReading}
use Rattle.il_lexer.specs.Spelling.{spells}
use Rattle.il_lexer.specs.Step.{is_white, length_to_close, IsBlank, IsStep}
use Rattle.il_lexer.proofs.Excess.{AreWithinBefore, within-next}
use Rattle.il_lexer.proofs.Steps.{no_step_from, no_blank, longest-len, no_open_comment, step_positive, no_step_nil}

not_some : {A : Type 0} (x : A) → ◌≡◌ {A = Option A} None (Some x) → ⊥
not_some x e = cc

above : (a b : ℕ) → nat_lt a b ≡ true → a < b
above a b h = grind arith

at_most : (a b : ℕ) → nat_lt a b ≡ false → b ≤ a
at_most a b h = grind arith

-- the longest of the first n fronts that spells a token
record IsSpelt (text : List ℕ) (n : ℕ) : Type 0 where
  len : ℕ
  kind : TokenKind
  inside : len ≤ n
  spelt : spells (take len text) ≡ Some kind
  longest : (k : ℕ) → len < k → k ≤ n → spells (take k text) ≡ None

-- none of the first n fronts spells a token
abbrev IsUnspelt : List ℕ → ℕ → Type 0
IsUnspelt text n = (k : ℕ) → k ≤ n → spells (take k text) ≡ None

-- what holds up to n and of the next number holds up to that one
up_to : (P : ℕ → Type 0) (n : ℕ) → ((k : ℕ) → k ≤ n → P k) → P (suc n) → (k : ℕ) → k ≤ suc n → P k
up_to P n before here k h = elim (cases_order k (suc n)) [
  | inl e ↦ subst P (sym e) here
  | inr (inl l) ↦ before k (omega arith)
  | inr (inr l) ↦ absurd (omega arith)
]

spelt_decided : (text : List ℕ) (n : ℕ) → IsSpelt text n ⊎ IsUnspelt text n
spelt_decided text zero = inr (λ k h. let e : k ≡ 0 = omega arith in ap (λ m. spells (take m text)) e)
spelt_decided text (suc n) = by (spells (take (suc n) text)) refl (spelt_decided text n)
  where
    by : (o : Option TokenKind) → spells (take (suc n) text) ≡ o → IsSpelt text n ⊎ IsUnspelt text n → IsSpelt text (suc n) ⊎ IsUnspelt text (suc n)
    by (Some kind) e before = inl (record { len = suc n; kind = kind; inside = omega arith; spelt = e; longest = λ k l i. absurd (omega arith) })
    by None e (inl s) = inl (record {
      len = s.len;
      kind = s.kind;
      inside = (let i : s.len ≤ n = s.inside in omega arith);
      spelt = s.spelt;
      longest = λ k l i. up_to (λ m. s.len < m → spells (take m text) ≡ None) n (λ m h j. s.longest m j h) (λ j. e) k i l;
    })
    by None e (inr u) = inr (up_to (λ m. spells (take m text) ≡ None) n u e)

-- a step at the front of a text, or none
abbrev Stepping : List ℕ → Type 0
Stepping text = ((step : _) × IsStep text step) ⊎ ((step : _) → IsStep text step → ⊥)

-- where no blank stands, a token does or none
token_decided : (text : List ℕ) → ((n : ℕ) → IsBlank text n → ⊥) → Stepping text
token_decided text blank = by (spelt_decided text (length text))
  where
    short : (s : IsSpelt text (length text)) → (b c : Bool) → starts_with_letter text ≡ b → nat_lt 40 s.len ≡ c → Stepping text
    short s true true e f =
        inr (no_step_from text blank (λ n kind i t.
        let same : n ≡ s.len = longest-len text s.len n s.kind kind s.spelt s.longest s.inside i t in
        let low : n ≤ 40 = t.short e in
        let high : 40 < s.len = above 40 s.len f in
        omega arith))
    short s true false e f =
        inl (
          record { len = s.len; kind = Some s.kind },
          record {
            inside = s.inside;
            takes = record { spelt = s.spelt; longest = s.longest; short = λ l. at_most 40 s.len f };
          },
        )
    short s false c e f =
        inl (
          record { len = s.len; kind = Some s.kind },
          record {
            inside = s.inside;
            takes = record { spelt = s.spelt; longest = s.longest; short = λ l. (let z : false ≡ true = sym e ∙ l in absurd (cc)) };
          },
        )

    by : IsSpelt text (length text) ⊎ IsUnspelt text (length text) → Stepping text
    by (inl s) = short s (starts_with_letter text) (nat_lt 40 s.len) refl refl
    by (inr u) = inr (no_step_from text blank (λ n kind i t. let z : ◌≡◌ {A = Option TokenKind} None (Some kind) = sym (u n i) ∙ t.spelt in cc))

-- a comment ends in the text
close_inside : (text : List ℕ) (n : ℕ) → length_to_close text ≡ Some n → n ≤ length text
close_inside text n e = by (position (λ b. eqb b 93) text) refl e
  where
    by : (o : Option ℕ) → position (λ b. eqb b 93) text ≡ o → option_map (λ place. place + 1) o ≡ Some n → n ≤ length text
    by None f g = absurd (not_some n g)
    by (Some place) f g =
        let same : place + 1 ≡ n = cc in
        let within : place < length text = (position-Some (λ b. eqb b 93) text place 0 f).0 in
        omega arith

step_decided : (text : List ℕ) → Stepping text
step_decided [] = inr no_step_nil
step_decided (b ∷ bs) = white (is_white b) refl
  where
    comment : (o : Option ℕ) → length_to_close (b ∷ bs) ≡ o → b ≡ 91 → Stepping (b ∷ bs)
    comment None e f = inr (no_open_comment (b ∷ bs) f e)
    comment (Some n) e f = inl (record { len = n; kind = None }, record { inside = close_inside (b ∷ bs) n e; takes = inr (f, e) })

    bracket : (t : Bool) → eqb b 91 ≡ t → is_white b ≡ false → Stepping (b ∷ bs)
    bracket true e f = comment (length_to_close (b ∷ bs)) refl (eqb-true b 91 e)
    bracket false e f = token_decided (b ∷ bs) (no_blank (b ∷ bs) f (eqb-false b 91 e))

    white : (t : Bool) → is_white b ≡ t → Stepping (b ∷ bs)
    white true e = inl (record { len = 1; kind = None }, record { inside = omega arith; takes = inl (e, refl) })
    white false e = bracket (eqb b 91) refl e

-- how far a text is cut: to its end, or to a rest at which no step stands
abbrev IsHeld : List ℕ → Type 0
IsHeld text = (steps : _) × (rest : List ℕ) × Cuts text steps rest × (0 < length rest) × ((step : _) → IsStep rest step → ⊥) × (length rest ≤ length text)

abbrev Cutting : List ℕ → Type 0
Cutting text = ((steps : _) × Cuts text steps []) ⊎ IsHeld text

cut_upto : (n : ℕ) (text : List ℕ) → length text ≤ n → Cutting text
cut_upto n [] h = inl ([], refl)
cut_upto zero (b ∷ bs) h = absurd (omega arith)
cut_upto (suc n) (b ∷ bs) h = by (step_decided (b ∷ bs)) (λ text l. cut_upto n text l)
  where
    onward : (step : _) → IsStep (b ∷ bs) step → Cutting (drop step.len (b ∷ bs)) → Cutting (b ∷ bs)
    onward step s (inl c) = inl (step ∷ c.0, (s, c.1))
    onward step s (inr c) =
        let l : length (drop step.len (b ∷ bs)) ≡ length (b ∷ bs) - step.len = length-drop step.len (b ∷ bs) in
        let k = c.5 in
        let shorter : length c.1 ≤ length (b ∷ bs) = omega arith in
        inr (step ∷ c.0, c.1, (s, c.2), c.3, c.4, shorter)

    by : Stepping (b ∷ bs) → ((text : List ℕ) → length text ≤ n → Cutting text) → Cutting (b ∷ bs)
    by (inl s) later =
        let l : length (drop s.0.len (b ∷ bs)) ≡ length (b ∷ bs) - s.0.len = length-drop s.0.len (b ∷ bs) in
        let p : 0 < s.0.len = step_positive (b ∷ bs) s.0 s.1 in
        onward s.0 s.1 (later (drop s.0.len (b ∷ bs)) (omega arith))
    by (inr never) later = inr ([], b ∷ bs, refl, omega arith, never, omega arith)

-- a token is within its limit or above it
within_decided : (limit : ℕ) (k : TokenKind) → IsWithin limit k ⊎ IsAbove limit k
within_decided limit (kind.Number v) = by (nat_lt limit v) refl
  where
    by : (b : Bool) → nat_lt limit v ≡ b → IsWithin limit (kind.Number v) ⊎ IsAbove limit (kind.Number v)
    by true e = inr (v, refl, above limit v e)
    by false e = inl (λ u f. let same : v ≡ u = cc in let low : v ≤ limit = at_most limit v e in omega arith)
within_decided limit _ = inl (λ u f. absurd (cc))

-- the first number above its limit among the first n tokens, if any
excess_before : (tokens : List Token) (n : ℕ) → AreWithinBefore tokens n ⊎ ((place : ℕ) × IsFirstExcess tokens place)
excess_before tokens zero = inl (λ i token h e. absurd (omega arith))
excess_before tokens (suc n) = by (excess_before tokens n)
  where
    next : suc n ≡ n + 1
    next = omega arith

    here : AreWithinBefore tokens n → (o : Option Token) → slice_get tokens n ≡ o → AreWithinBefore tokens (suc n) ⊎ ((place : ℕ) × IsFirstExcess tokens place)
    here before None e = inl (λ i token h f. elim (cases_order i n) [
      | inl same ↦ (let z : ◌≡◌ {A = Option Token} None (Some token) = sym e ∙ ap (slice_get tokens) (sym same) ∙ f in absurd (not_some token z))
      | inr (inl l) ↦ before i token l f
      | inr (inr l) ↦ absurd (omega arith)
    ])
    here before (Some token) e = elim (within_decided (limit_at tokens n) token.kind) [
      | inl w ↦ inl (subst (AreWithinBefore tokens) (sym next) (within-next tokens n token e w before))
      | inr a ↦ inr (token.first, record { index = n; token = token; there = e; above = a; before = before; begins = refl })
    ]

    by : AreWithinBefore tokens n ⊎ ((place : ℕ) × IsFirstExcess tokens place) → AreWithinBefore tokens (suc n) ⊎ ((place : ℕ) × IsFirstExcess tokens place)
    by (inl before) = here before (slice_get tokens n) refl
    by (inr x) = inr x

limits_decided : (tokens : List Token) → AreWithinLimits tokens ⊎ ((place : ℕ) × IsFirstExcess tokens place)
limits_decided tokens = by (excess_before tokens (length tokens))
  where
    by : AreWithinBefore tokens (length tokens) ⊎ ((place : ℕ) × IsFirstExcess tokens place) → AreWithinLimits tokens ⊎ ((place : ℕ) × IsFirstExcess tokens place)
    by (inl before) = inl (λ i token e. before i token (slice_get_within tokens i token e) e)
    by (inr x) = inr x

-- each text has a reading
pub reading_decided : (text : List ℕ) → (r : Result (List Token) Refusal) × IsReading text r
reading_decided text = high (high_place text) refl
  where
    limited : (tokens : List Token) → high_place text ≡ None → AreTokens text tokens → AreWithinLimits tokens ⊎ ((place : ℕ) × IsFirstExcess tokens place)
        → (r : Result (List Token) Refusal) × IsReading text r
    limited tokens e t (inl w) = (Ok tokens, (e, t, w))
    limited tokens e t (inr x) = (Err (record { code = Number; place = x.0; name = None }), ((e, (tokens, t, x.1)), refl))

    cut : high_place text ≡ None → Cutting text → (r : Result (List Token) Refusal) × IsReading text r
    cut e (inl c) = limited (tokens_from 0 c.0) e (c.0, c.1, refl) (limits_decided (tokens_from 0 c.0))
    cut e (inr c) =
        let shorter = c.5 in
        let at : length text - length c.1 + length c.1 ≡ length text = omega arith in (
          Err (record { code = Lexical; place = length text - length c.1; name = None }),
          ((e, record { steps = c.0; rest = c.1; cut = c.2; more = c.3; no_step = c.4; at = at }), refl),
        )

    high : (o : Option ℕ) → high_place text ≡ o → (r : Result (List Token) Refusal) × IsReading text r
    high (Some place) e = (Err (record { code = NotAscii; place = place; name = None }), (e, refl))
    high None e = cut e (cut_upto (length text) text (omega arith))
