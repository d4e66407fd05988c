-- A word is a letter, then letters, digits and underscores; a number is digits; the first byte of a spelling tells whether it is a
-- word, a number or a symbol.
use Rattle.std.specs.Prelude.{ℕ, ◌+◌, ◌-◌, ◌*◌, ◌^◌, min, List, [], ◌∷◌, Option, Some, None, if◌then◌else◌, fold}
use Rattle.std.specs.List.{list_all}
use Rattle.std.specs.Option.{option_map}
use Rattle.std.specs.Char.{is_ascii_alphabetic, is_ascii_digit}
use Rattle.il_core.specs.Name.{is_name_part}
use Rattle.il_core.specs.declared.token.Keyword.{Keyword}
use Rattle.il_core.specs.declared.token.TokenKind.{TokenKind}
use Rattle.il_core.specs.declared.token.TokenKind.TheVariants.{Key, Ident, Number, Symbol}
use Rattle.il_lexer.specs.Keyword.{keyword_of}
use Rattle.il_lexer.specs.Symbol.{symbol_of}

abbrev pub keyword_or_name : Option Keyword → List ℕ → TokenKind
keyword_or_name (Some keyword) bs = Key keyword
keyword_or_name None bs = Ident bs

-- a word is a keyword where it is spelt as one, else a name
abbrev pub word_kind : List ℕ → TokenKind
word_kind bs = keyword_or_name (keyword_of bs) bs

-- the number that decimal digits spell
abbrev pub decimal : List ℕ → ℕ
decimal bs = fold (λ value digit. value * 10 + (digit - 48)) 0 bs

-- a number token has this value, or 2^64 - 1 where it is more
abbrev pub number_kind : List ℕ → TokenKind
number_kind bs = Number (min (decimal bs) (2 ^ 64 - 1))

-- the token that the bytes spell as a whole
abbrev pub spells : List ℕ → Option TokenKind
spells [] = None
spells (b ∷ bs) =
    if is_ascii_alphabetic b then (if list_all is_name_part bs then Some (word_kind (b ∷ bs)) else None)
    else (if is_ascii_digit b then (if list_all is_ascii_digit bs then Some (number_kind (b ∷ bs)) else None)
    else option_map Symbol (symbol_of (b ∷ bs)))
