-- How the arguments of a call are read: one after the other, each up to the next comma.
use Rattle.std.specs.Prelude.{◌≡◌, ℕ, suc, false, if◌then◌else◌, List, [], ◌∷◌, ◌++◌, Option, None, Some}
use Rattle.std.specs.Borrow.{Bor}
use Rattle.il_core.specs.declared.token.Symbol.TheVariants as s
use Rattle.il_core.specs.declared.token.Token.{Token}
use Rattle.il_core.specs.declared.token.TokenKind.{TokenKind}
use Rattle.il_core.specs.declared.token.TokenKind.TheVariants.{Symbol}
use Rattle.il_syntax.specs.Expression.{kinds}
use Rattle.il_syntax.specs.FormReading.{is_comma}

-- the number of tokens before the first comma, or of all where there is none
abbrev pub argument_len : List Token → ℕ
argument_len [] = 0
argument_len (t ∷ ts) = if is_comma t.kind then 0 else suc (argument_len ts)

-- no token is a comma
abbrev pub HasNoComma : List TokenKind → Type 0
HasNoComma [] = Unit {0}
HasNoComma (t ∷ ts) = (is_comma t ≡ false) × HasNoComma ts

-- the tokens in front of the first comma, and those behind it where there is one
abbrev pub IsCut : List TokenKind → List TokenKind → Option (Bor (List Token)) → Type 0
IsCut tokens front None = (tokens ≡ front) × HasNoComma front
IsCut tokens front (Some behind) = (tokens ≡ front ++ Symbol s.Comma ∷ kinds behind.now) × HasNoComma front
