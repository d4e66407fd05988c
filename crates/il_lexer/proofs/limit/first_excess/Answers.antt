-- A number that is within its limit is passed.
use Rattle.std.proofs.Common.{◌≡◌, ◌∙◌, length, Some, refl, sym, subst, arith}
use Rattle.std.proofs.lemmas.Option.{slice_get_read}
use Rattle.std.specs.List.{slice_get}
use Rattle.il_lexer.specs.Limit.{IsWithin}
use Rattle.il_lexer.proofs.Excess.{limit-next, within-next}
use Rattle.il_lexer.proofs.limit.first_excess.Goals as goal

pub loop-token-preserved : goal.loop-token-preserved
loop-token-preserved c =
    let tokens = c.args.tokens.now in
    let n = c.loop-token.token-index in
    let token = c.token-item.result in
    let there : slice_get tokens n ≡ Some token = slice_get_read tokens (length tokens) n token refl (omega arith) c.token-item.is in (
      c.limit_behind-limit.ensures ∙ sym (limit-next tokens n token there),
      within-next tokens n token there (subst (λ k. IsWithin k token.kind) c.loop-token.invariant.0 c.if-exceeds.ensures) c.loop-token.invariant.1,
    )
