use Rattle.std.proofs.Common.{◌∙◌, sym}
use Rattle.il_syntax.specs.Expression.{kinds}
use Rattle.il_syntax.proofs.CallArguments.{inside, enclosed_are}
use Rattle.il_syntax.proofs.form_call.arguments_of_call.Goals as goal

pub returns-then-is_right : goal.returns-then-is_right
returns-then-is_right c =
    inside (kinds c.args.tokens.now) (kinds c.in-Some-split_last.inner.now) c.listed.result
    (enclosed_are c.args.tokens.now c.in-Some.behind.now c.in-Some-split_last.inner.now c.in-Some.first.now c.in-Some-split_last.last.now
    c.in-Some.ensures.cases.0 c.in-Some-split_last.ensures.cases.0 (sym c.is_left.ensures ∙ c.if-is_left.true) (sym c.is_right.ensures ∙ c.if-is_right.true))
    c.listed.ensures
