-- A symbol is one of these sixteen spellings, of one byte or of two.
use Rattle.std.specs.Prelude.{ℕ, ◌==◌, List, [], ◌∷◌, Option, Some, None, if◌then◌else◌}
use Rattle.std.specs.Str.{byte}
use Rattle.il_core.specs.declared.token.Symbol.{Symbol}
use Rattle.il_core.specs.declared.token.Symbol.TheVariants.{Becomes, Colon, Semicolon, Comma, LeftParen, RightParen, Dots, Plus, Minus, Times, Equal, Unequal, AtMost, Less, AtLeast, Greater}

-- the symbol that one byte spells
abbrev pub single_symbol : ℕ → Option Symbol
single_symbol b =
    if b == byte ":" then Some Colon
    else (if b == byte ";" then Some Semicolon
    else (if b == byte "," then Some Comma
    else (if b == byte "(" then Some LeftParen
    else (if b == byte ")" then Some RightParen
    else (if b == byte "+" then Some Plus
    else (if b == byte "-" then Some Minus
    else (if b == byte "*" then Some Times
    else (if b == byte "=" then Some Equal
    else (if b == byte "<" then Some Less
    else (if b == byte ">" then Some Greater
    else None))))))))))

-- the symbol that a second byte makes of `=`
abbrev pub symbol_before_equal : ℕ → Option Symbol
symbol_before_equal b =
    if b == byte ":" then Some Becomes
    else (if b == byte "/" then Some Unequal
    else (if b == byte "<" then Some AtMost
    else (if b == byte ">" then Some AtLeast
    else None)))

-- the symbol that two bytes spell
abbrev pub double_symbol : ℕ → ℕ → Option Symbol
double_symbol b c =
    if c == byte "=" then symbol_before_equal b
    else (if c == byte "." then (if b == byte "." then Some Dots else None)
    else None)

-- the symbol that the bytes spell
abbrev pub symbol_of : List ℕ → Option Symbol
symbol_of [] = None
symbol_of (b ∷ []) = single_symbol b
symbol_of (b ∷ c ∷ []) = double_symbol b c
symbol_of (b ∷ c ∷ d ∷ ds) = None
