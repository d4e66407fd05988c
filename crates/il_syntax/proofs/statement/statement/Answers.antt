use Rattle.std.proofs.Common.{sym, ◌∙◌}
use Rattle.il_syntax.proofs.StatementRead.{statement_read}
use Rattle.il_syntax.proofs.statement.statement.Goals as goal

pub returns-then-is_semicolon : goal.returns-then-is_semicolon
returns-then-is_semicolon c = statement_read c.args.piece.now c.in-Some.body.now c.in-Some.last.now c.form.result c.in-Some.ensures.cases.0 (sym c.is_semicolon.ensures ∙ c.if-is_semicolon.true) c.form.ensures
