-- Each turn goes on by one step.
use Rattle.std.proofs.Common.{◌+◌, sym, subst}
use Rattle.il_lexer.specs.Step.{IsStep}
use Rattle.il_lexer.proofs.Cuts.{IsCutSoFar, rest-drop, goes_on}
use Rattle.il_lexer.proofs.lexing.cut.Goals as goal

pub loop-at-preserved : goal.loop-at-preserved
loop-at-preserved c =
    let text = c.args.text.now in
    let at = c.loop-at.at in
    let step = c.in-Some.step in
    let h = subst (λ x. IsStep x step) (rest-drop text at) c.in-Some.ensures in
    subst (λ x. IsCutSoFar text x (at + step.len)) (sym c.in_ok-push_token.ensures) (goes_on text c.loop-at.tokens at step c.loop-at.invariant h)
