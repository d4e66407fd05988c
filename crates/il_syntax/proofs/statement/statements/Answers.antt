use Rattle.std.proofs.Common.{List, sym, subst}
use Rattle.il_core.specs.declared.statement.Stmt.{Stmt}
use Rattle.il_syntax.proofs.ReadSoFar.{IsReadSoFar, goes_on, fails, refuses}
use Rattle.il_syntax.proofs.statement.statements.Goals as goal

pub returns-in-Err-NoForm : goal.returns-in-Err-NoForm
returns-in-Err-NoForm c =
    refuses c.args.tokens.now c.place_of-place.result c.refused.result c.refused.ensures
    (fails c.args.tokens.now c.loop-rest.stmts c.loop-rest.rest.now c.first_piece.result.0.now c.first_piece.result.1.now c.place_of-place.result
    c.loop-rest.invariant c.first_piece.ensures.cut (rw c.in-Err-NoForm.field-0-is at c.in-Err-NoForm.ensures) c.place_of-place.ensures)

pub loop-rest-preserved : goal.loop-rest-preserved
loop-rest-preserved c =
    subst (λ (stmts : List Stmt). IsReadSoFar c.args.tokens.now stmts c.first_piece.result.1.now) (sym c.in_ok-push-in-Ok.ensures.ok)
    (goes_on c.args.tokens.now c.loop-rest.stmts c.loop-rest.rest.now c.first_piece.result.0.now c.first_piece.result.1.now
    (record { place = c.place_of-place.result; form = c.in-Ok.form }) c.loop-rest.invariant c.first_piece.ensures.cut
    (record { derived = c.in-Ok.ensures; place = c.place_of-place.ensures }))
