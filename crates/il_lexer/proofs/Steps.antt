-- Which step stands at the front of a text, by its first byte.
use Rattle.std.proofs.Common.{Option, Some, None, ◌≡◌, ◌≢◌, ℕ, zero, suc, ◌+◌, ◌<◌, ◌≤◌, Bool, true, false, cond, ◌||◌, eqb, List, [], ◌∷◌, length, take, refl, sym, ap, ◌∙◌, subst, arith, slice_index, get_or, inl, inr, MatchOption}
use Rattle.std.specs.Option.{option_map}
use Rattle.std.specs.List.{prefix_len, position}
use Rattle.std.specs.Int.{is_in_range}
use Rattle.std.specs.Char.{is_ascii_alphabetic, is_ascii_digit}
use Rattle.std.proofs.lemmas.Bool.{both_ways, or_cases, eqb-true, le-leb, and_from, cases_order}
use Rattle.std.proofs.lemmas.List.{length-take-le, get_or-take}
use Rattle.std.proofs.lemmas.List.Sums.{prefix_len-le-length, prefix_len_passes}
use Rattle.il_core.specs.Name.{is_name, is_name_part, starts_with_letter}
use Rattle.il_core.specs.declared.token.TokenKind.{TokenKind}
use Rattle.il_core.specs.declared.token.TokenKind.TheVariants.{Symbol}
use Rattle.il_core.specs.declared.token.Symbol.TheVariants as symbols
use Rattle.il_lexer.specs.Spelling.{spells, word_kind, number_kind}
use Rattle.il_lexer.specs.Symbol.{single_symbol, symbol_before_equal, double_symbol}
use Rattle.il_lexer.specs.Step.{is_white, length_to_close, IsBlank, IsLongest, IsStep}
use Rattle.il_lexer.specs.declared.step.Step.{Step}
use Rattle.il_lexer.proofs.Fronts.{list_all-take, list_all-take_more, prefix_len-cons, word_spelt, word_unspelt, number_spelt, number_unspelt, symbol_spelt}

-- where neither blank nor token stands there is no step
pub no_step_from : (text : List ℕ) → ((n : ℕ) → IsBlank text n → ⊥) → ((n : ℕ) (kind : TokenKind) → n ≤ length text → IsLongest text n kind → ⊥) → (step : Step) → IsStep text step → ⊥
no_step_from text blank token step h =
    (elim step.kind as (λ o. MatchOption o (IsBlank text step.len) (IsLongest text step.len) → ⊥) [
      | None ↦ λ b. blank step.len b
      | Some kind ↦ λ t. token step.len kind h.inside t
    ]) h.takes

-- no blank stands where the first byte is neither white space nor `[`
pub no_blank : (text : List ℕ) → is_white (slice_index text 0) ≡ false → slice_index text 0 ≢ 91 → (n : ℕ) → IsBlank text n → ⊥
no_blank text white bracket n (inl s) = both_ways _ white s.0
no_blank text white bracket n (inr c) = bracket c.0

-- a token is as long as a spelling that no longer one follows
pub longest-len : (text : List ℕ) (m n : ℕ) (a b : TokenKind) → spells (take m text) ≡ Some a → ((k : ℕ) → m < k → k ≤ length text → spells (take k text) ≡ None) → m ≤ length text → n ≤ length text → IsLongest text n b → n ≡ m
longest-len text m n a b spelt longest inside within token =
    elim (cases_order n m) [
      | inl e ↦ e
      | inr (inl l) ↦ (let z : ◌≡◌ {A = Option TokenKind} None (Some a) = sym (token.longest m l inside) ∙ spelt in cc)
      | inr (inr l) ↦ (let z : ◌≡◌ {A = Option TokenKind} None (Some b) = sym (longest n l within) ∙ token.spelt in cc)
    ]

-- the second of four tests or the third is enough
or_inner : (d a b e : Bool) → (a || b) ≡ true → (((d || a) || b) || e) ≡ true
or_inner true a b e h = refl
or_inner false true b e h = refl
or_inner false false true e h = refl
or_inner false false false e h = cc

-- a letter is a name byte
pub letter-part : (b : ℕ) → is_ascii_alphabetic b ≡ true → is_name_part b ≡ true
letter-part b h = or_inner (is_in_range 48 57 b) (is_in_range 65 90 b) (is_in_range 97 122 b) (eqb b 95) h

-- the run of name bytes behind a letter spells a word
word_front : (b : ℕ) (bs : List ℕ) (n : ℕ) → is_ascii_alphabetic b ≡ true → n ≡ 1 + prefix_len is_name_part bs → spells (take n (b ∷ bs)) ≡ Some (word_kind (take n (b ∷ bs)))
word_front b bs zero letter e = absurd (omega arith)
word_front b bs (suc n) letter e = word_spelt b (take n bs) letter (list_all-take is_name_part bs n (omega arith))

-- nothing longer than that run is spelt
word_longest : (b : ℕ) (bs : List ℕ) (k : ℕ) → is_ascii_alphabetic b ≡ true → 1 + prefix_len is_name_part bs < k → k ≤ length (b ∷ bs) → spells (take k (b ∷ bs)) ≡ None
word_longest b bs zero letter h i = absurd (omega arith)
word_longest b bs (suc k) letter h i = word_unspelt b (take k bs) letter (list_all-take_more is_name_part bs k (omega arith) (omega arith))

-- the run of name bytes at the front is a word
pub word-spelt : (text : List ℕ) → starts_with_letter text ≡ true → spells (take (prefix_len is_name_part text) text) ≡ Some (word_kind (take (prefix_len is_name_part text) text))
word-spelt [] letter = cc
word-spelt (b ∷ bs) letter = word_front b bs _ letter (prefix_len-cons is_name_part b bs (letter-part b letter))

-- and nothing longer is spelt
pub word-longest : (text : List ℕ) → starts_with_letter text ≡ true → (k : ℕ) → prefix_len is_name_part text < k → k ≤ length text → spells (take k text) ≡ None
word-longest [] letter k h i = cc
word-longest (b ∷ bs) letter k h i =
    let e : prefix_len is_name_part (b ∷ bs) ≡ 1 + prefix_len is_name_part bs = prefix_len-cons is_name_part b bs (letter-part b letter) in
    word_longest b bs k letter (omega arith) i

-- a word of at most 40 bytes is a token
pub word_token : (text : List ℕ) (n : ℕ) → starts_with_letter text ≡ true → n ≡ prefix_len is_name_part text → n ≤ 40 → IsLongest text n (word_kind (take n text))
word_token text n letter e short =
    subst (λ m. IsLongest text m (word_kind (take m text))) (sym e) record {
      spelt = word-spelt text letter;
      longest = word-longest text letter;
      short = λ _. omega arith;
    }

-- where the word has more bytes, no token stands
pub long_word_token : (text : List ℕ) → starts_with_letter text ≡ true → 40 < prefix_len is_name_part text → (n : ℕ) (kind : TokenKind) → n ≤ length text → IsLongest text n kind → ⊥
long_word_token text letter long n kind within token =
    let e : n ≡ prefix_len is_name_part text = longest-len text (prefix_len is_name_part text) n _ kind (word-spelt text letter) (word-longest text letter) (prefix_len-le-length is_name_part text) within token in
    let s : n ≤ 40 = token.short letter in
    absurd (omega arith)

-- the run of name bytes at the front still begins with the letter
letter_front : (text : List ℕ) (n : ℕ) → starts_with_letter text ≡ true → 0 < n → starts_with_letter (take n text) ≡ true
letter_front text zero letter h = absurd (omega arith)
letter_front [] (suc n) letter h = letter
letter_front (b ∷ bs) (suc n) letter h = letter

-- a letter begins a run of name bytes
letter_run : (text : List ℕ) → starts_with_letter text ≡ true → 0 < prefix_len is_name_part text
letter_run [] letter = cc
letter_run (b ∷ bs) letter =
    let e : prefix_len is_name_part (b ∷ bs) ≡ 1 + prefix_len is_name_part bs = prefix_len-cons is_name_part b bs (letter-part b letter) in
    omega arith

-- a word of at most 40 bytes may be a name
pub word_name : (text : List ℕ) (n : ℕ) → starts_with_letter text ≡ true → n ≡ prefix_len is_name_part text → n ≤ 40 → is_name (take n text) ≡ true
word_name text n letter e short =
    let p = prefix_len-le-length is_name_part text in
    let r = letter_run text letter in
    let l : length (take n text) ≡ n = length-take-le n text (omega arith) in
    and_from _ _ (le-leb _ 40 (omega arith)) (and_from _ _ (letter_front text n letter (omega arith)) (list_all-take is_name_part text n (omega arith)))

-- the run of digits behind a digit spells a number
number_front : (b : ℕ) (bs : List ℕ) (n : ℕ) → is_ascii_alphabetic b ≡ false → is_ascii_digit b ≡ true → n ≡ 1 + prefix_len is_ascii_digit bs → spells (take n (b ∷ bs)) ≡ Some (number_kind (take n (b ∷ bs)))
number_front b bs zero letter digit e = absurd (omega arith)
number_front b bs (suc n) letter digit e = number_spelt b (take n bs) letter digit (list_all-take is_ascii_digit bs n (omega arith))

-- nothing longer than that run is spelt
number_longest : (b : ℕ) (bs : List ℕ) (k : ℕ) → is_ascii_alphabetic b ≡ false → is_ascii_digit b ≡ true → 1 + prefix_len is_ascii_digit bs < k → k ≤ length (b ∷ bs) → spells (take k (b ∷ bs)) ≡ None
number_longest b bs zero letter digit h i = absurd (omega arith)
number_longest b bs (suc k) letter digit h i = number_unspelt b (take k bs) letter digit (list_all-take_more is_ascii_digit bs k (omega arith) (omega arith))

-- the run of digits at the front is a token
pub number_token : (text : List ℕ) (n : ℕ) → is_ascii_alphabetic (slice_index text 0) ≡ false → is_ascii_digit (slice_index text 0) ≡ true → n ≡ prefix_len is_ascii_digit text → IsLongest text n (number_kind (take n text))
number_token [] n letter digit run = cc
number_token (b ∷ bs) n letter digit run =
    let e : n ≡ 1 + prefix_len is_ascii_digit bs = run ∙ prefix_len-cons is_ascii_digit b bs digit in
    record {
      spelt = number_front b bs n letter digit e;
      longest = λ k h i. number_longest b bs k letter digit (omega arith) i;
      short = λ l. absurd (both_ways _ letter l);
    }

-- the bytes of that run are digits
pub digits_pass : (text : List ℕ) (n : ℕ) → n ≡ prefix_len is_ascii_digit text → (k d : ℕ) → k < length (take n text) → is_ascii_digit (get_or (take n text) k d) ≡ true
digits_pass text n e k d h =
    let p = prefix_len-le-length is_ascii_digit text in
    let l : length (take n text) ≡ n = length-take-le n text (omega arith) in
    let i : k < n = omega arith in
    rw get_or-take (prefix_len_passes is_ascii_digit text k d (omega arith))

-- three bytes that begin with neither letter nor digit spell nothing
three_unspelt : (b c : ℕ) (ds : List ℕ) (k : ℕ) → is_ascii_alphabetic b ≡ false → is_ascii_digit b ≡ false → 2 < k → k ≤ length (b ∷ c ∷ ds) → spells (take k (b ∷ c ∷ ds)) ≡ None
three_unspelt b c ds zero letter digit h i = absurd (omega arith)
three_unspelt b c ds (suc zero) letter digit h i = absurd (omega arith)
three_unspelt b c ds (suc (suc zero)) letter digit h i = absurd (omega arith)
three_unspelt b c [] (suc (suc (suc k))) letter digit h i = absurd (omega arith)
three_unspelt b c (d ∷ ds) (suc (suc (suc k))) letter digit h i = symbol_spelt b (c ∷ d ∷ take k ds) letter digit

-- a symbol of two bytes is a token
pub double_token : (text : List ℕ) (symbol : _) → is_ascii_alphabetic (slice_index text 0) ≡ false → is_ascii_digit (slice_index text 0) ≡ false → 2 ≤ length text → double_symbol (slice_index text 0) (slice_index text 1) ≡ Some symbol → IsLongest text 2 (Symbol symbol)
double_token [] symbol letter digit h e = absurd (omega arith)
double_token (b ∷ []) symbol letter digit h e = absurd (omega arith)
double_token (b ∷ c ∷ ds) symbol letter digit h e = record {
  spelt = symbol_spelt b (c ∷ []) letter digit ∙ ap (option_map Symbol) e;
  longest = λ k l i. three_unspelt b c ds k letter digit l i;
  short = λ l. absurd (both_ways _ letter l);
}

-- what a front that is no symbol spells
symbol_unspelt : (text : List ℕ) (n : ℕ) → is_ascii_alphabetic (slice_index text 0) ≡ false → is_ascii_digit (slice_index text 0) ≡ false → (2 ≤ length text → double_symbol (slice_index text 0) (slice_index text 1) ≡ None) → 1 < n → n ≤ length text → spells (take n text) ≡ None
symbol_unspelt text zero letter digit e h i = absurd (omega arith)
symbol_unspelt text (suc zero) letter digit e h i = absurd (omega arith)
symbol_unspelt [] (suc (suc n)) letter digit e h i = absurd (omega arith)
symbol_unspelt (b ∷ []) (suc (suc n)) letter digit e h i = absurd (omega arith)
symbol_unspelt (b ∷ c ∷ ds) (suc (suc zero)) letter digit e h i = symbol_spelt b (c ∷ []) letter digit ∙ ap (option_map Symbol) (e (omega arith))
symbol_unspelt (b ∷ c ∷ ds) (suc (suc (suc n))) letter digit e h i = three_unspelt b c ds (suc (suc (suc n))) letter digit (omega arith) i

-- a symbol of one byte is a token where the first two bytes are no symbol
pub single_token : (text : List ℕ) (symbol : _) → is_ascii_alphabetic (slice_index text 0) ≡ false → is_ascii_digit (slice_index text 0) ≡ false → 0 < length text → (2 ≤ length text → double_symbol (slice_index text 0) (slice_index text 1) ≡ None) → single_symbol (slice_index text 0) ≡ Some symbol → IsLongest text 1 (Symbol symbol)
single_token [] symbol letter digit h e f = absurd (omega arith)
single_token (b ∷ bs) symbol letter digit h e f = record {
  spelt = symbol_spelt b [] letter digit ∙ ap (option_map Symbol) f;
  longest = λ k l i. symbol_unspelt (b ∷ bs) k letter digit e l i;
  short = λ l. absurd (both_ways _ letter l);
}

-- a token has a byte
pub token_positive : (text : List ℕ) (n : ℕ) (kind : TokenKind) → IsLongest text n kind → 0 < n
token_positive text zero kind token = (let z : ◌≡◌ {A = Option TokenKind} None (Some kind) = token.spelt in cc)
token_positive text (suc n) kind token = omega arith

-- no token stands where neither the first byte nor the first two are a symbol
pub no_symbol_token : (text : List ℕ) → is_ascii_alphabetic (slice_index text 0) ≡ false → is_ascii_digit (slice_index text 0) ≡ false → (2 ≤ length text → double_symbol (slice_index text 0) (slice_index text 1) ≡ None) → single_symbol (slice_index text 0) ≡ None → (n : ℕ) (kind : TokenKind) → n ≤ length text → IsLongest text n kind → ⊥
no_symbol_token text letter digit e f zero kind within token = absurd (let z : 0 < 0 = token_positive text zero kind token in omega arith)
no_symbol_token [] letter digit e f (suc n) kind within token = absurd (omega arith)
no_symbol_token (b ∷ bs) letter digit e f (suc zero) kind within token =
    (let z : ◌≡◌ {A = Option TokenKind} None (Some kind) = sym (symbol_spelt b [] letter digit ∙ ap (option_map Symbol) f) ∙ token.spelt in cc)
no_symbol_token (b ∷ bs) letter digit e f (suc (suc n)) kind within token =
    (let z : ◌≡◌ {A = Option TokenKind} None (Some kind) = sym (symbol_unspelt (b ∷ bs) (suc (suc n)) letter digit e (omega arith) within) ∙ token.spelt in cc)

-- a first byte that stands in no symbol of two bytes
double_none : (b c : ℕ) → symbol_before_equal b ≡ None → eqb b 46 ≡ false → double_symbol b c ≡ None
double_none b c e f =
    elim (eqb c 61) as (λ t. cond t (symbol_before_equal b) (cond (eqb c 46) (cond (eqb b 46) (Some symbols.Dots) None) None) ≡ None) [
      | true ↦ e
      | false ↦ (elim (eqb c 46) as (λ t. cond t (cond (eqb b 46) (Some symbols.Dots) None) None ≡ None) [
        | true ↦ ap (λ t. cond t (Some symbols.Dots) None) f
        | false ↦ refl
      ])
    ]

-- a byte that begins no token spells nothing, whatever follows
other_unspelt : (b : ℕ) (bs : List ℕ) → is_ascii_alphabetic b ≡ false → is_ascii_digit b ≡ false → single_symbol b ≡ None → symbol_before_equal b ≡ None → eqb b 46 ≡ false → spells (b ∷ bs) ≡ None
other_unspelt b [] letter digit s e f = symbol_spelt b [] letter digit ∙ ap (option_map Symbol) s
other_unspelt b (c ∷ []) letter digit s e f = symbol_spelt b (c ∷ []) letter digit ∙ ap (option_map Symbol) (double_none b c e f)
other_unspelt b (c ∷ d ∷ ds) letter digit s e f = symbol_spelt b (c ∷ d ∷ ds) letter digit

abbrev SpellsNothing : ℕ → Type 0
SpellsNothing b = (bs : List ℕ) → spells (b ∷ bs) ≡ None

-- white space begins no token
white_unspelt : (b : ℕ) → is_white b ≡ true → SpellsNothing b
white_unspelt b h =
    elim (or_cases _ _ h) [
      | inr e ↦ subst SpellsNothing (sym (eqb-true b 32 e)) (λ bs. other_unspelt 32 bs refl refl refl refl refl)
      | inl i ↦ (elim (or_cases _ _ i) [
        | inr e ↦ subst SpellsNothing (sym (eqb-true b 13 e)) (λ bs. other_unspelt 13 bs refl refl refl refl refl)
        | inl j ↦ (elim (or_cases _ _ j) [
          | inr e ↦ subst SpellsNothing (sym (eqb-true b 10 e)) (λ bs. other_unspelt 10 bs refl refl refl refl refl)
          | inl e ↦ subst SpellsNothing (sym (eqb-true b 9 e)) (λ bs. other_unspelt 9 bs refl refl refl refl refl)
        ])
      ])
    ]

-- `[` begins no token
bracket_unspelt : (b : ℕ) → b ≡ 91 → SpellsNothing b
bracket_unspelt b e = subst SpellsNothing (sym e) (λ bs. other_unspelt 91 bs refl refl refl refl refl)

-- no token stands where the first byte spells nothing
no_token : (text : List ℕ) (n : ℕ) (kind : TokenKind) → SpellsNothing (slice_index text 0) → IsLongest text n kind → ⊥
no_token text zero kind h token = (let z : ◌≡◌ {A = Option TokenKind} None (Some kind) = token.spelt in cc)
no_token [] (suc n) kind h token = (let z : ◌≡◌ {A = Option TokenKind} None (Some kind) = token.spelt in cc)
no_token (b ∷ bs) (suc n) kind h token = (let z : ◌≡◌ {A = Option TokenKind} None (Some kind) = sym (h (take n bs)) ∙ token.spelt in cc)

-- `[` is no white space
bracket_white : (b : ℕ) → b ≡ 91 → is_white b ≡ true → ⊥
bracket_white b e h = let z : is_white 91 ≡ true = subst (λ x. is_white x ≡ true) e h in cc

-- where a blank stands, no token does
pub blank_token : (text : List ℕ) (m n : ℕ) (kind : TokenKind) → IsBlank text m → IsLongest text n kind → ⊥
blank_token text m n kind (inl s) token = no_token text n kind (white_unspelt (slice_index text 0) s.0) token
blank_token text m n kind (inr c) token = no_token text n kind (bracket_unspelt (slice_index text 0) c.0) token

-- where a comment is not closed there is no step
pub no_open_comment : (text : List ℕ) → slice_index text 0 ≡ 91 → length_to_close text ≡ None → (step : Step) → IsStep text step → ⊥
no_open_comment text bracket close =
    no_step_from text (λ n b. (elim b [
      | inl s ↦ bracket_white (slice_index text 0) bracket s.0
      | inr c ↦ (let z : ◌≡◌ {A = Option ℕ} None (Some n) = sym close ∙ c.1 in cc)
    ])) (λ n kind i t. no_token text n kind (bracket_unspelt (slice_index text 0) bracket) t)

-- a blank has a byte
blank_positive : (text : List ℕ) (n : ℕ) → IsBlank text n → 0 < n
blank_positive text n (inl s) = omega (arith, s.1)
blank_positive text n (inr c) =
    (elim (position (λ b. eqb b 93) text) as (λ o. option_map (λ place. place + 1) o ≡ Some n → 0 < n) [
      | None ↦ λ e. (let z : ◌≡◌ {A = Option ℕ} None (Some n) = e in cc)
      | Some place ↦ λ e. (let z : place + 1 ≡ n = cc in omega arith)
    ]) c.1

-- a step goes on by a byte
pub step_positive : (text : List ℕ) (step : Step) → IsStep text step → 0 < step.len
step_positive text step h =
    (elim step.kind as (λ o. MatchOption o (IsBlank text step.len) (IsLongest text step.len) → 0 < step.len) [
      | None ↦ λ b. blank_positive text step.len b
      | Some kind ↦ λ t. token_positive text step.len kind t
    ]) h.takes

-- an empty text has no step
pub no_step_nil : (step : Step) → IsStep [] step → ⊥
no_step_nil step h = let p = step_positive [] step h in let i : step.len ≤ 0 = h.inside in omega arith

-- two blanks at one place are as long
same_blank : (text : List ℕ) (m n : ℕ) → IsBlank text m → IsBlank text n → m ≡ n
same_blank text m n (inl s) (inl t) = s.1 ∙ sym t.1
same_blank text m n (inl s) (inr d) = absurd (bracket_white (slice_index text 0) d.0 s.0)
same_blank text m n (inr c) (inl t) = absurd (bracket_white (slice_index text 0) c.0 t.0)
same_blank text m n (inr c) (inr d) = let e : ◌≡◌ {A = Option ℕ} (Some m) (Some n) = sym c.1 ∙ d.1 in cc

-- two tokens at one place are the same
same_token : (text : List ℕ) (m n : ℕ) (a b : TokenKind) → m ≤ length text → n ≤ length text → IsLongest text m a → IsLongest text n b → (m ≡ n) × (a ≡ b)
same_token text m n a b i j s t =
    let e : m ≡ n = longest-len text n m b a t.spelt t.longest j i s in
    let f : ◌≡◌ {A = Option TokenKind} (Some a) (Some b) = sym s.spelt ∙ ap (λ k. spells (take k text)) e ∙ t.spelt in
    (e, cc)

-- two steps at one place are as long, and go over the same
same_takes : (text : List ℕ) (m n : ℕ) (a b : Option TokenKind) → m ≤ length text → n ≤ length text → MatchOption a (IsBlank text m) (IsLongest text m) → MatchOption b (IsBlank text n) (IsLongest text n) → (m ≡ n) × (a ≡ b)
same_takes text m n None None i j s t = (same_blank text m n s t, refl)
same_takes text m n None (Some b) i j s t = absurd (blank_token text m n b s t)
same_takes text m n (Some a) None i j s t = absurd (blank_token text n m a t s)
same_takes text m n (Some a) (Some b) i j s t = let e = same_token text m n a b i j s t in (e.0, ap Some e.1)

-- at the front of a text there is one step at most
pub same_step : (text : List ℕ) (a b : Step) → IsStep text a → IsStep text b → a ≡ b
same_step text a b s t =
    let e = same_takes text a.len b.len a.kind b.kind s.inside t.inside s.takes t.takes in
    let made : ℕ → Option TokenKind → Step = λ n kind. record { len = n; kind = kind } in
    ap (λ n. made n a.kind) e.0 ∙ ap (λ k. made b.len k) e.1
