-- The reading of the tokens of a text, one piece after the other.
use Rattle.std.specs.Prelude.{◌≡◌, ℕ, suc, List, [], ◌∷◌, map, Result, Ok, Err, None, if◌then◌else◌}
use Rattle.il_core.specs.Statement.{Statement, statement_of, placed}
use Rattle.il_core.specs.declared.refusal.Code.TheVariants as code
use Rattle.il_core.specs.declared.refusal.TextEnd.{TextEnd}
use Rattle.il_core.specs.declared.refusal.TextEnd.TheVariants as end
use Rattle.il_core.specs.declared.statement.Form.{Form}
use Rattle.il_core.specs.declared.statement.Stmt.{Stmt}
use Rattle.il_core.specs.declared.token.Token.{Token}
use Rattle.il_core.specs.declared.token.TokenKind.{TokenKind}
use Rattle.il_syntax.specs.declared.expression.ExpressionEnd.{ExpressionEnd}
use Rattle.il_syntax.specs.declared.expression.ExpressionEnd.TheVariants as form_end
use Rattle.il_syntax.specs.Form.{Derives}
use Rattle.il_syntax.specs.Parse.{is_semicolon, pieces, AreStatements, FailsAt}

-- the number of tokens up to and with the first `;`, or of all where there is none
abbrev pub piece_len : List Token → ℕ
piece_len [] = 0
piece_len (t ∷ ts) = if is_semicolon t.kind then 1 else suc (piece_len ts)

-- what a piece is read as: the statement that it is, or none
abbrev pub StatementIs : List TokenKind → Result Form ExpressionEnd → Type 0
StatementIs tokens (Ok form) = Derives (statement_of form) tokens
StatementIs tokens (Err form_end.NoForm) = (statement : Statement) → Derives statement tokens → ⊥
StatementIs tokens (Err form_end.NoMemory) = Unit {0}

-- what tokens are read as: the statements that all of their pieces are, or the first piece that is none
abbrev pub StatementsAre : List Token → Result (List Stmt) TextEnd → Type 0
StatementsAre tokens (Ok stmts) = AreStatements (pieces tokens) (map placed stmts)
StatementsAre tokens (Err (end.Refused r)) = (r.name ≡ None) × (r.code ≡ code.Syntax) × FailsAt (pieces tokens) r.place
StatementsAre tokens (Err end.NoMemory) = Unit {0}
