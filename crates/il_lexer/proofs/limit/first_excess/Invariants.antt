-- The limit is that of the next token, and each number so far is within its own.
use Rattle.std.proofs.Common.{◌≡◌, ℕ, ◌<◌, Some}
use Rattle.std.specs.List.{slice_get}
use Rattle.il_core.specs.declared.token.Token.{Token}
use Rattle.il_lexer.specs.Limit.{limit_at, IsWithin}
use Rattle.il_lexer.proofs.limit.first_excess.Given as goal

abbrev pub invariant-loop-token : goal.invariant-loop-token
invariant-loop-token l = (l.limit ≡ limit_at l.tokens l.token-index)
    × ((i : ℕ) (token : Token) → i < l.token-index → slice_get l.tokens i ≡ Some token → IsWithin (limit_at l.tokens i) token.kind)
