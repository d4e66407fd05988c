-- The pieces of the tokens that are read, and those that are still to be read.
use Rattle.std.proofs.Common.{◌≡◌, ℕ, List, [], ◌∷◌, ◌++◌, refl, sym, ◌∙◌, ap, subst, append-nil, append_assoc, inl, inr}
use Rattle.std.specs.Prelude.{map, Err, None}
use Rattle.std.proofs.lemmas.List.{map-append}
use Rattle.il_core.specs.Statement.{Placed, placed}
use Rattle.il_core.specs.declared.refusal.Code.TheVariants.{Syntax}
use Rattle.il_core.specs.declared.refusal.TextEnd.{TextEnd}
use Rattle.il_core.specs.declared.refusal.TextEnd.TheVariants.{Refused}
use Rattle.il_core.specs.declared.statement.Stmt.{Stmt}
use Rattle.il_core.specs.declared.token.Token.{Token}
use Rattle.il_syntax.specs.StatementReading.{StatementsAre}
use Rattle.il_syntax.specs.Parse.{pieces, place_of, IsStatement, AreStatements, HasNoForm, FailsAt}

-- the statements are those of the first pieces, and the tokens those of the other pieces
pub record IsReadSoFar (tokens : List Token) (stmts : List Stmt) (rest : List Token) : Type 0 where
  pub front : List (List Token)
  pub parts : pieces tokens ≡ front ++ pieces rest
  pub spelt : AreStatements front (map placed stmts)

pub begins : (tokens : List Token) → IsReadSoFar tokens [] tokens
begins tokens = record { front = []; parts = refl; spelt = tt }

-- one more piece is one more statement
one_more : (front : List (List Token)) (stmts : List Placed) (piece : List Token) (stmt : Placed) → AreStatements front stmts → IsStatement piece stmt
    → AreStatements (front ++ piece ∷ []) (stmts ++ stmt ∷ [])
one_more [] [] piece stmt h e = (e, tt)
one_more [] (s ∷ ss) piece stmt h e = absurd h
one_more (p ∷ ps) [] piece stmt h e = absurd h
one_more (p ∷ ps) (s ∷ ss) piece stmt h e = (h.0, one_more ps ss piece stmt h.1 e)

pub goes_on : (tokens : List Token) (stmts : List Stmt) (rest piece after : List Token) (stmt : Stmt) → IsReadSoFar tokens stmts rest → pieces rest ≡ piece ∷ pieces after
    → IsStatement piece (placed stmt) → IsReadSoFar tokens (stmts ++ stmt ∷ []) after
goes_on tokens stmts rest piece after stmt so_far cut here = record {
  front = so_far.front ++ piece ∷ [];
  parts = so_far.parts ∙ ap (λ (ps : List (List Token)). so_far.front ++ ps) cut ∙ sym (append_assoc so_far.front (piece ∷ []) (pieces after));
  spelt = subst (λ (ss : List Placed). AreStatements (so_far.front ++ piece ∷ []) ss) (sym (map-append placed stmts (stmt ∷ [])))
      (one_more so_far.front (map placed stmts) piece (placed stmt) so_far.spelt here);
}

-- no piece is left
pub ends : (tokens : List Token) (stmts : List Stmt) → IsReadSoFar tokens stmts [] → AreStatements (pieces tokens) (map placed stmts)
ends tokens stmts so_far = subst (λ (ps : List (List Token)). AreStatements ps (map placed stmts)) (sym (so_far.parts ∙ append-nil so_far.front)) so_far.spelt

-- the first piece without a form stands behind statements
fails_behind : (front rest : List (List Token)) (stmts : List Placed) (place : ℕ) → AreStatements front stmts → FailsAt rest place → FailsAt (front ++ rest) place
fails_behind [] rest stmts place h f = f
fails_behind (p ∷ ps) rest [] place h f = absurd h
fails_behind (p ∷ ps) rest (s ∷ ss) place h f = inr (s.says, h.0.derived, fails_behind ps rest ss place h.1 f)

-- the next piece has no form
pub fails : (tokens : List Token) (stmts : List Stmt) (rest piece after : List Token) (place : ℕ) → IsReadSoFar tokens stmts rest → pieces rest ≡ piece ∷ pieces after
    → HasNoForm piece → place ≡ place_of piece → FailsAt (pieces tokens) place
fails tokens stmts rest piece after place so_far cut none at =
    subst (λ (ps : List (List Token)). FailsAt ps place) (sym (so_far.parts ∙ ap (λ (ps : List (List Token)). so_far.front ++ ps) cut))
    (fails_behind so_far.front (piece ∷ pieces after) (map placed stmts) place so_far.spelt (inl (none, at)))

-- the refusal that tells the piece
pub refuses : (tokens : List Token) (place : ℕ) (e : TextEnd) → e ≡ Refused (record { code = Syntax; place = place; name = None }) → FailsAt (pieces tokens) place
    → StatementsAre tokens (Err e)
refuses tokens place e is f = subst (λ (x : TextEnd). StatementsAre tokens (Err x)) (sym is) (refl, refl, f)
