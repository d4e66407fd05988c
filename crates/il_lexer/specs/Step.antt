-- What stands at the front of a text: a byte of white space, a comment, or the longest token.
use Rattle.std.specs.Prelude.{◌≡◌, ℕ, ◌+◌, ◌<◌, ◌≤◌, ◌==◌, ◌||◌, Bool, ◌⊎◌, List, length, take, slice_index, Option, Some, None, IsTrue, MatchOption, position}
use Rattle.std.specs.Option.{option_map}
use Rattle.std.specs.Str.{byte}
use Rattle.il_core.specs.Name.{starts_with_letter}
use Rattle.il_core.specs.declared.token.TokenKind.{TokenKind}
use Rattle.il_lexer.specs.Spelling.{spells}
use Rattle.il_lexer.specs.declared.step.Step.{Step}

-- a tab, a newline, a carriage return or a space
abbrev pub is_white : ℕ → Bool
is_white b = (b == 9) || (b == 10) || (b == 13) || (b == 32)

abbrev pub IsSpace : List ℕ → ℕ → Type 0
IsSpace text n = IsTrue (is_white (slice_index text 0)) × (n ≡ 1)

-- how many bytes there are up to and with the first `]`
abbrev pub length_to_close : List ℕ → Option ℕ
length_to_close text = option_map (λ place. place + 1) (position (λ b. b == byte "]") text)

-- a comment is `[` and all up to and with the first `]` behind it
abbrev pub IsComment : List ℕ → ℕ → Type 0
IsComment text n = (slice_index text 0 ≡ byte "[") × (length_to_close text ≡ Some n)

abbrev pub IsBlank : List ℕ → ℕ → Type 0
IsBlank text n = IsSpace text n ⊎ IsComment text n

-- the first n bytes are the longest token there, and where that is a word it has 40 bytes at most
pub record IsLongest (text : List ℕ) (n : ℕ) (kind : TokenKind) : Type 0 where
  pub spelt : spells (take n text) ≡ Some kind
  pub longest : (k : ℕ) → n < k → k ≤ length text → spells (take k text) ≡ None
  pub short : IsTrue (starts_with_letter text) → n ≤ 40

-- the step goes over a blank or over a token at the front of the text
pub record IsStep (text : List ℕ) (step : Step) : Type 0 where
  pub inside : step.len ≤ length text
  pub takes : MatchOption step.kind (IsBlank text step.len) (IsLongest text step.len)

-- the step at the front of the text; none where neither blank nor token stands there
abbrev pub StepsAt : List ℕ → Option Step → Type 0
StepsAt text (Some step) = IsStep text step
StepsAt text None = (step : Step) → IsStep text step → ⊥
