-- A piece is a statement exactly where it is read as one.
use Rattle.std.proofs.Common.{◌≡◌, true, List, [], ◌∷◌, ◌++◌, refl, sym, ◌∙◌, ap, subst}
use Rattle.std.specs.Prelude.{Result, Ok, Err}
use Rattle.std.proofs.lemmas.List.{append_cancel_right, map-append}
use Rattle.il_core.specs.Statement.{Statement, statement_of}
use Rattle.il_core.specs.declared.statement.Form.{Form}
use Rattle.il_core.specs.declared.token.Symbol.TheVariants as s
use Rattle.il_core.specs.declared.token.Token.{Token}
use Rattle.il_core.specs.declared.token.TokenKind.{TokenKind}
use Rattle.il_core.specs.declared.token.TokenKind.TheVariants.{Symbol}
use Rattle.il_syntax.specs.declared.expression.ExpressionEnd.{ExpressionEnd}
use Rattle.il_syntax.specs.declared.expression.ExpressionEnd.TheVariants.{NoForm, NoMemory}
use Rattle.il_syntax.specs.Expression.{kinds}
use Rattle.il_syntax.specs.FormReading.{Reading, nothing, whole, around, around_all, reading, Answers}
use Rattle.il_syntax.specs.Parse.{is_semicolon}
use Rattle.il_syntax.specs.StatementReading.{StatementIs}
use Rattle.il_syntax.proofs.SpeltIsRead.{Agrees, spelt_reads}
use Rattle.il_syntax.proofs.ReadIsSpelt.{read_spelt}

semicolon_token : (t : TokenKind) → is_semicolon t ≡ true → t ≡ Symbol s.Semicolon
semicolon_token (Symbol s.Semicolon) e = refl
semicolon_token _ e = cc

-- a form that is read agrees with what is read
form_agrees : (r : Reading) (form : Form) → Answers r (Ok form) → Agrees (statement_of form) r
form_agrees nothing form h = h
form_agrees (whole t) form h = h
form_agrees (around make tokens) form h = h
form_agrees (around_all make tokens) form h = h

-- where no form is read, no statement agrees with what is read
none_agrees : (r : Reading) (t : Statement) → Answers r (Err NoForm) → Agrees t r → ⊥
none_agrees nothing t h g = g
none_agrees (whole u) t h g = h
none_agrees (around make tokens) t h g = h g.0 g.1
none_agrees (around_all make tokens) t h g = h g.0 g.1

read_statement : (body : List TokenKind) (result : Result Form ExpressionEnd) → Answers (reading body) result → StatementIs (body ++ Symbol s.Semicolon ∷ []) result
read_statement body (Ok form) h = record { body = body; spelt = read_spelt (statement_of form) body (form_agrees (reading body) form h); ended = refl }
read_statement body (Err NoForm) h = λ t d.
    let same = append_cancel_right body d.body (Symbol s.Semicolon ∷ []) d.ended in
    none_agrees (reading body) t h (subst (λ (ts : List TokenKind). Agrees t (reading ts)) (sym same) (spelt_reads t d.body d.spelt))
read_statement body (Err NoMemory) h = tt

-- what stands before a `;` is read as the statement that it is with it
pub statement_read : (piece body : List Token) (last : Token) (result : Result Form ExpressionEnd) → piece ≡ body ++ last ∷ [] → is_semicolon last.kind ≡ true
    → Answers (reading (kinds body)) result → StatementIs (kinds piece) result
statement_read piece body last result e f h =
    let cut : kinds piece ≡ kinds body ++ Symbol s.Semicolon ∷ [] =
    ap kinds e ∙ map-append (λ t. t.kind) body (last ∷ []) ∙ ap (λ (t : TokenKind). kinds body ++ t ∷ []) (semicolon_token last.kind f) in
    subst (λ (ts : List TokenKind). StatementIs ts result) (sym cut) (read_statement (kinds body) result h)
