-- The limit of a number is 2^63 where the token before it is `-`, else one less.
use Rattle.std.specs.Prelude.{◌≡◌, ℕ, zero, suc, ◌<◌, ◌≤◌, ◌-◌, ◌^◌, List, Option, Some, slice_get}
use Rattle.std.specs.Option.{option_map, option_map_or}
use Rattle.il_core.specs.declared.token.Token.{Token}
use Rattle.il_core.specs.declared.token.TokenKind.{TokenKind}
use Rattle.il_core.specs.declared.token.TokenKind.TheVariants.{Number, Symbol}
use Rattle.il_core.specs.declared.token.Symbol.TheVariants.{Minus}

-- the limit of a number behind this token
abbrev pub limit_behind : TokenKind → ℕ
limit_behind (Symbol Minus) = 2 ^ 63
limit_behind _ = 2 ^ 63 - 1

abbrev pub kind_at : List Token → ℕ → Option TokenKind
kind_at tokens i = option_map (λ token. token.kind) (slice_get tokens i)

-- the limit of a number at this index
abbrev pub limit_at : List Token → ℕ → ℕ
limit_at tokens zero = 2 ^ 63 - 1
limit_at tokens (suc i) = option_map_or limit_behind (kind_at tokens i) (2 ^ 63 - 1)

-- the token, if it is a number, is at most the limit
abbrev pub IsWithin : ℕ → TokenKind → Type 0
IsWithin limit kind = (value : ℕ) → kind ≡ Number value → value ≤ limit

-- the token is a number above the limit
abbrev pub IsAbove : ℕ → TokenKind → Type 0
IsAbove limit kind = (value : ℕ) × (kind ≡ Number value) × (limit < value)

-- each number is at most its limit
abbrev pub AreWithinLimits : List Token → Type 0
AreWithinLimits tokens = (i : ℕ) (token : Token) → slice_get tokens i ≡ Some token → IsWithin (limit_at tokens i) token.kind

-- the first number above its limit begins at this place
pub record IsFirstExcess (tokens : List Token) (place : ℕ) : Type 0 where
  pub index : ℕ
  pub token : Token
  pub there : slice_get tokens index ≡ Some token
  pub above : IsAbove (limit_at tokens index) token.kind
  pub before : (i : ℕ) (other : Token) → i < index → slice_get tokens i ≡ Some other → IsWithin (limit_at tokens i) other.kind
  pub begins : token.first ≡ place
