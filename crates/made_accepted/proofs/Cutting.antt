-- What steps a lexer takes over a front that is known, whatever follows it.
use Rattle.std.proofs.Common.{Option, Some, None, ◌≡◌, ℕ, zero, suc, ◌+◌, ◌≤◌, Bool, true, false, cond, leb, List, [], ◌∷◌, ◌++◌, length, take, drop, refl, ap, subst, arith, inl}
use Rattle.std.specs.List.{prefix_len}
use Rattle.std.specs.Char.{is_ascii_alphabetic, is_ascii_digit}
use Rattle.std.proofs.lemmas.Bool.{leb-true}
use Rattle.std.proofs.lemmas.List.Sums.{prefix_len-le-length}
use Rattle.il_core.specs.Name.{is_name_part}
use Rattle.il_core.specs.declared.token.Symbol.{Symbol}
use Rattle.il_core.specs.declared.token.TokenKind.{TokenKind}
use Rattle.il_core.specs.declared.token.TokenKind.TheVariants as kind
use Rattle.il_lexer.specs.Spelling.{word_kind, number_kind}
use Rattle.il_lexer.specs.Symbol.{single_symbol, double_symbol}
use Rattle.il_lexer.specs.Step.{is_white, IsStep}
use Rattle.il_core.specs.declared.token.Token.{Token}
use Rattle.il_lexer.specs.Cut.{Cuts, token_of, tokens_from}
use Rattle.il_lexer.proofs.Steps.{word_token, number_token, double_token, single_token}

-- a step of the lexer: so many bytes, and the token that they are, if any
pub record Hop : Type 0 where
  pub len : ℕ
  pub kind : Option TokenKind

abbrev pub IsHop : List ℕ → Hop → Type 0
IsHop text h = IsStep text (record { len = h.len; kind = h.kind })

-- the steps lead from the front of the text to this rest of it
abbrev pub Hops : List ℕ → List Hop → List ℕ → Type 0
Hops text [] rest = rest ≡ text
Hops text (h ∷ hs) rest = IsHop text h × Hops (drop h.len text) hs rest

abbrev pub hop_tokens : ℕ → List Hop → List Token
hop_tokens at [] = []
hop_tokens at (h ∷ hs) = token_of at h.len h.kind ++ hop_tokens (at + h.len) hs

-- they are what the lexer cuts
pub are_cuts : (at : ℕ) (text : List ℕ) (hops : List Hop) (rest : List ℕ) → Hops text hops rest → (steps : _) × Cuts text steps rest × (hop_tokens at hops ≡ tokens_from at steps)
are_cuts at text [] rest c = ([], c, refl)
are_cuts at text (h ∷ hs) rest c =
    let r = are_cuts (at + h.len) (drop h.len text) hs rest c.1 in
    (record { len = h.len; kind = h.kind } ∷ r.0, (c.0, r.1), ap (λ ts. token_of at h.len h.kind ++ ts) r.2)

abbrev pub blank : ℕ → Hop
blank n = record { len = n; kind = None }

abbrev pub token : ℕ → TokenKind → Hop
token n k = record { len = n; kind = Some k }

-- the symbol of the first two bytes
abbrev pub double_here : List ℕ → Option Symbol
double_here [] = None
double_here (b ∷ []) = None
double_here (b ∷ c ∷ bs) = double_symbol b c

-- the step over a symbol of two bytes or of one
abbrev pub symbol_step : Option Symbol → Option Symbol → Option Hop
symbol_step (Some two) one = Some (token 2 (kind.Symbol two))
symbol_step None (Some one) = Some (token 1 (kind.Symbol one))
symbol_step None None = None

-- the step over a word of so many bytes
abbrev pub word_step : List ℕ → ℕ → Option Hop
word_step text n = cond (leb n 40) (Some (token n (word_kind (take n text)))) None

-- the step over a number of so many bytes
abbrev pub number_step : List ℕ → ℕ → Option Hop
number_step text n = Some (token n (number_kind (take n text)))

-- the step at a front that is no comment
abbrev pub front_step : List ℕ → Option Hop
front_step [] = None
front_step (b ∷ bs) =
    cond (is_white b) (Some (blank 1))
    (cond (is_ascii_alphabetic b) (word_step (b ∷ bs) (prefix_len is_name_part (b ∷ bs)))
    (cond (is_ascii_digit b) (number_step (b ∷ bs) (prefix_len is_ascii_digit (b ∷ bs)))
    (symbol_step (double_here (b ∷ bs)) (single_symbol b))))

-- a word, a number and a symbol are steps
word_is : (b : ℕ) (bs : List ℕ) (n : ℕ) (step : Hop) → is_ascii_alphabetic b ≡ true → n ≡ prefix_len is_name_part (b ∷ bs) → word_step (b ∷ bs) n ≡ Some step → IsHop (b ∷ bs) step
word_is b bs n step letter run e = by (leb n 40) refl e
  where
    by : (t : Bool) → leb n 40 ≡ t → cond t (Some (token n (word_kind (take n (b ∷ bs))))) None ≡ Some step → IsHop (b ∷ bs) step
    by true f e =
        let short : n ≤ 40 = leb-true n 40 f in
        let inside : prefix_len is_name_part (b ∷ bs) ≤ length (b ∷ bs) = prefix_len-le-length is_name_part (b ∷ bs) in
        let same : token n (word_kind (take n (b ∷ bs))) ≡ step = cc in
        subst (IsHop (b ∷ bs)) same (record { inside = omega arith; takes = word_token (b ∷ bs) n letter run short })
    by false f e = absurd (let z : ◌≡◌ {A = Option Hop} None (Some step) = e in cc)

number_is : (b : ℕ) (bs : List ℕ) (n : ℕ) (step : Hop) → is_ascii_alphabetic b ≡ false → is_ascii_digit b ≡ true → n ≡ prefix_len is_ascii_digit (b ∷ bs) → number_step (b ∷ bs) n ≡ Some step → IsHop (b ∷ bs) step
number_is b bs n step letter digit run e =
    let inside : prefix_len is_ascii_digit (b ∷ bs) ≤ length (b ∷ bs) = prefix_len-le-length is_ascii_digit (b ∷ bs) in
    let same : token n (number_kind (take n (b ∷ bs))) ≡ step = cc in
    subst (IsHop (b ∷ bs)) same (record { inside = omega arith; takes = number_token (b ∷ bs) n letter digit run })

symbol_is : (b : ℕ) (bs : List ℕ) (step : Hop) → is_ascii_alphabetic b ≡ false → is_ascii_digit b ≡ false → symbol_step (double_here (b ∷ bs)) (single_symbol b) ≡ Some step → IsHop (b ∷ bs) step
symbol_is b [] step letter digit e = one (single_symbol b) refl e
  where
    one : (o : Option Symbol) → single_symbol b ≡ o → symbol_step None o ≡ Some step → IsHop (b ∷ []) step
    one None f e = absurd (let z : ◌≡◌ {A = Option Hop} None (Some step) = e in cc)
    one (Some s) f e =
        let same : token 1 (kind.Symbol s) ≡ step = cc in
        subst (IsHop (b ∷ [])) same (record { inside = omega arith; takes = single_token (b ∷ []) s letter digit (omega arith) (λ h. absurd (omega arith)) f })
symbol_is b (c ∷ cs) step letter digit e = two (double_symbol b c) (single_symbol b) refl refl e
  where
    two : (o p : Option Symbol) → double_symbol b c ≡ o → single_symbol b ≡ p → symbol_step o p ≡ Some step → IsHop (b ∷ c ∷ cs) step
    two (Some s) p f g e =
        let same : token 2 (kind.Symbol s) ≡ step = cc in
        subst (IsHop (b ∷ c ∷ cs)) same (record { inside = omega arith; takes = double_token (b ∷ c ∷ cs) s letter digit (omega arith) f })
    two None (Some s) f g e =
        let same : token 1 (kind.Symbol s) ≡ step = cc in
        subst (IsHop (b ∷ c ∷ cs)) same (record { inside = omega arith; takes = single_token (b ∷ c ∷ cs) s letter digit (omega arith) (λ h. f) g })
    two None None f g e = absurd (let z : ◌≡◌ {A = Option Hop} None (Some step) = e in cc)

-- the step at a front is a step there
pub front_is : (text : List ℕ) (step : Hop) → front_step text ≡ Some step → IsHop text step
front_is [] step e = absurd (let z : ◌≡◌ {A = Option Hop} None (Some step) = e in cc)
front_is (b ∷ bs) step e = by (is_white b) (is_ascii_alphabetic b) (is_ascii_digit b) refl refl refl e
  where
    by : (white letter digit : Bool) → is_white b ≡ white → is_ascii_alphabetic b ≡ letter → is_ascii_digit b ≡ digit
        → cond white (Some (blank 1)) (cond letter (word_step (b ∷ bs) (prefix_len is_name_part (b ∷ bs))) (cond digit (number_step (b ∷ bs) (prefix_len is_ascii_digit (b ∷ bs)))
        (symbol_step (double_here (b ∷ bs)) (single_symbol b)))) ≡ Some step
        → IsHop (b ∷ bs) step
    by true letter digit f g h e =
        let same : blank 1 ≡ step = cc in
        subst (IsHop (b ∷ bs)) same (record { inside = omega arith; takes = inl (f, refl) })
    by false true digit f g h e = word_is b bs _ step g refl e
    by false false true f g h e = number_is b bs _ step g h refl e
    by false false false f g h e = symbol_is b bs step g h e

-- the steps at a front, at most so many, and what is left behind them
abbrev go_over : (List ℕ → List Hop) → List ℕ → Option Hop → List Hop
go_over on text None = []
go_over on text (Some s) = s ∷ on (drop s.len text)

abbrev go_behind : (List ℕ → List ℕ) → List ℕ → Option Hop → List ℕ
go_behind on text None = text
go_behind on text (Some s) = on (drop s.len text)

abbrev pub steps_over : ℕ → List ℕ → List Hop
steps_over zero text = []
steps_over (suc n) text = go_over (steps_over n) text (front_step text)

abbrev pub left_behind : ℕ → List ℕ → List ℕ
left_behind zero text = text
left_behind (suc n) text = go_behind (left_behind n) text (front_step text)

pub steps_cut : (n : ℕ) (text : List ℕ) → Hops text (steps_over n text) (left_behind n text)
steps_cut zero text = refl
steps_cut (suc n) text = by (front_step text) refl (λ h. steps_cut n (drop h.len text))
  where
    by : (o : Option Hop) → front_step text ≡ o → ((h : Hop) → Hops (drop h.len text) (steps_over n (drop h.len text)) (left_behind n (drop h.len text)))
        → Hops text (go_over (steps_over n) text o) (go_behind (left_behind n) text o)
    by None e claim = refl
    by (Some h) e claim = (front_is text h e, claim h)

-- one cut behind another
pub cuts_then : (text : List ℕ) (a b : List Hop) (middle rest : List ℕ) → Hops text a middle → Hops middle b rest → Hops text (a ++ b) rest
cuts_then text [] b middle rest c d = subst (λ t. Hops t b rest) c d
cuts_then text (s ∷ a) b middle rest c d = (c.0, cuts_then (drop s.len text) a b middle rest c.1 d)
