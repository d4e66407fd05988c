use Rattle.std.proofs.Common.{Err, sym, subst}
use Rattle.il_syntax.specs.Expression.{kinds}
use Rattle.il_syntax.specs.ExpressionReading.{climb, whole, ReadsAs}
use Rattle.il_syntax.proofs.ExpressionExact.{exactly, fails_whole}
use Rattle.il_syntax.proofs.expression.expression.Goals as goal

pub returns-in-Err : goal.returns-in-Err
returns-in-Err c =
    let ts = kinds c.args.tokens.now in
    exactly ts (Err c.in-Err.end) (fails_whole c.in-Err.end (climb 200 0 ts) c.in-Err.ensures.value)

pub returns-in-Ok : goal.returns-in-Ok
returns-in-Ok c = exactly (kinds c.args.tokens.now) c.whole.result (subst (λ found. ReadsAs c.whole.result (whole found)) (sym c.in-Ok.ensures.value) c.whole.ensures)
