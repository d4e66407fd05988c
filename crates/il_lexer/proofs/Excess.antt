-- The first number above its limit.
use Rattle.std.proofs.Common.{Option, Some, ◌≡◌, ℕ, ◌+◌, ◌-◌, ◌<◌, ◌^◌, List, sym, ap, ◌∙◌, subst, arith, add-one, inl, inr}
use Rattle.std.specs.Option.{option_map, option_map_or}
use Rattle.std.specs.List.{slice_get}
use Rattle.std.proofs.lemmas.Bool.{cases_order}
use Rattle.il_core.specs.declared.token.Token.{Token}
use Rattle.il_core.specs.declared.token.TokenKind.{TokenKind}
use Rattle.il_lexer.specs.Limit.{limit_behind, limit_at, IsWithin, IsAbove, AreWithinLimits, IsFirstExcess}

-- the token before decides the limit
pub limit-next : (tokens : List Token) (i : ℕ) (token : Token) → slice_get tokens i ≡ Some token → limit_at tokens (i + 1) ≡ limit_behind token.kind
limit-next tokens i token e = rw add-one (ap (λ o. option_map_or limit_behind (option_map (λ t. t.kind) o) (2 ^ 63 - 1)) e)

-- no number is both above its limit and within it
pub within_above : (limit : ℕ) (kind : TokenKind) → IsWithin limit kind → IsAbove limit kind → ⊥
within_above limit kind w a = let l = w a.0 a.1 in let g = a.2 in omega arith

-- tokens within their limits have no first excess
pub limits_excess : (tokens : List Token) (place : ℕ) → AreWithinLimits tokens → IsFirstExcess tokens place → ⊥
limits_excess tokens place w x = within_above _ _ (w x.index x.token x.there) x.above

-- the first excess is at one place
pub same_excess : (tokens : List Token) (p q : ℕ) → IsFirstExcess tokens p → IsFirstExcess tokens q → p ≡ q
same_excess tokens p q x y =
    elim (cases_order x.index y.index) [
      | inl e ↦ (let t : ◌≡◌ {A = Option Token} (Some x.token) (Some y.token) = sym x.there ∙ ap (slice_get tokens) e ∙ y.there in
          let s : x.token ≡ y.token = cc in
          sym x.begins ∙ ap (λ t. t.first) s ∙ y.begins)
      | inr (inl l) ↦ absurd (within_above _ _ (y.before x.index x.token l x.there) x.above)
      | inr (inr l) ↦ absurd (within_above _ _ (x.before y.index y.token l y.there) y.above)
    ]

-- each number before an index is within its limit
abbrev pub AreWithinBefore : List Token → ℕ → Type 0
AreWithinBefore tokens n = (i : ℕ) (token : Token) → i < n → slice_get tokens i ≡ Some token → IsWithin (limit_at tokens i) token.kind

-- the next one is so too
pub within-next : (tokens : List Token) (n : ℕ) (token : Token) → slice_get tokens n ≡ Some token → IsWithin (limit_at tokens n) token.kind → AreWithinBefore tokens n → AreWithinBefore tokens (n + 1)
within-next tokens n token there here before i other h e =
    elim (cases_order i n) [
      | inl s ↦ (let t : ◌≡◌ {A = Option Token} (Some token) (Some other) = sym there ∙ ap (slice_get tokens) (sym s) ∙ e in
          let u : token ≡ other = cc in
          let w : IsWithin (limit_at tokens n) other.kind = subst (λ x. IsWithin (limit_at tokens n) x.kind) u here in
          subst (λ k. IsWithin (limit_at tokens k) other.kind) (sym s) w)
      | inr (inl l) ↦ before i other l e
      | inr (inr l) ↦ absurd (omega arith)
    ]
