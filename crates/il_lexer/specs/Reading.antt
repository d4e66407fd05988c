-- A text is read as its tokens, or as its one refusal: the first byte above 127, else the first place where no token stands, else
-- the first number above its limit.
use Rattle.std.specs.Prelude.{◌≡◌, ℕ, List, Option, Some, None, Result, Ok, Err, position, nat_lt}
use Rattle.il_core.specs.declared.token.Token.{Token}
use Rattle.il_core.specs.declared.refusal.Code.{Code}
use Rattle.il_core.specs.declared.refusal.Code.TheVariants.{NotAscii, Lexical, Number}
use Rattle.il_core.specs.declared.refusal.Refusal.{Refusal}
use Rattle.il_core.specs.declared.refusal.TextEnd.{TextEnd}
use Rattle.il_core.specs.declared.refusal.TextEnd.TheVariants.{Refused, NoMemory}
use Rattle.il_lexer.specs.Cut.{AreTokens, IsStuck}
use Rattle.il_lexer.specs.Limit.{AreWithinLimits, IsFirstExcess}

-- the place of the first byte above 127, also in a comment
abbrev pub high_place : List ℕ → Option ℕ
high_place text = position (λ b. nat_lt 127 b) text

-- each refusal is checked over the whole text before the next one is
abbrev pub IsRefusedAt : List ℕ → Code → ℕ → Type 0
IsRefusedAt text NotAscii place = high_place text ≡ Some place
IsRefusedAt text Lexical place = (high_place text ≡ None) × IsStuck text place
IsRefusedAt text Number place = (high_place text ≡ None) × ((tokens : List Token) × AreTokens text tokens × IsFirstExcess tokens place)
IsRefusedAt text _ place = ⊥

abbrev pub IsReading : List ℕ → Result (List Token) Refusal → Type 0
IsReading text (Ok tokens) = (high_place text ≡ None) × AreTokens text tokens × AreWithinLimits tokens
IsReading text (Err refusal) = IsRefusedAt text refusal.code refusal.place × (refusal.name ≡ None)

-- the answer is the reading of the text; want of memory alone is free
abbrev pub LexGives : List ℕ → Result (List Token) TextEnd → Type 0
LexGives text (Ok tokens) = IsReading text (Ok tokens)
LexGives text (Err (Refused refusal)) = IsReading text (Err refusal)
LexGives text (Err NoMemory) = Unit {0}

-- no text has two readings: no two lists of tokens, no list and a refusal, no two refusals
abbrev pub OneReading : Type 0
OneReading = (text : List ℕ) (a b : Result (List Token) Refusal) → IsReading text a → IsReading text b → a ≡ b
