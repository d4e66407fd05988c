-- Tokens spell at most one expression, and the reader finds it exactly where there is one.
use Rattle.std.proofs.Common.{◌≡◌, List, [], ◌∷◌, Some, None, Result, Ok, Err, refl, sym, ap, ◌∙◌, arith, append-nil}
use Rattle.il_core.specs.Tree.{Tree, tree_of}
use Rattle.il_core.specs.declared.statement.RawExpr.{RawExpr}
use Rattle.il_core.specs.declared.token.TokenKind.{TokenKind}
use Rattle.il_syntax.specs.Expression.{IsExpression, ExpressionIs}
use Rattle.il_syntax.specs.ExpressionReading.{Reading, Found, climb, whole_tree, whole, ReadsAs, Gives}
use Rattle.il_syntax.specs.declared.expression.ExpressionEnd.{ExpressionEnd}
use Rattle.il_syntax.specs.declared.expression.ExpressionEnd.TheVariants as end
use Rattle.il_syntax.proofs.ExpressionRead.{whole_is_read}
use Rattle.il_syntax.proofs.ExpressionWritten.{none_some, some_some, climb-reads}

-- an expression is read
read_of : (ts : List TokenKind) (tree : Tree) → IsExpression ts tree → whole (climb 200 0 ts) ≡ Some tree
read_of ts tree h =
    ap (λ us. whole (climb 200 0 us)) (sym h.spelt) ∙ ap whole (whole_is_read h.written 199 h.levelled h.shallow) ∙ ap Some h.tree_is

whole_tree-some : (x : Reading) (rest : List TokenKind) (tree : Tree) → whole_tree x rest ≡ Some tree → (rest ≡ []) × (x.tree ≡ tree)
whole_tree-some x [] tree h = (refl, some_some h)
whole_tree-some x (t ∷ rest) tree h = absurd (none_some h)

whole-some : (found : Found) (tree : Tree) → whole found ≡ Some tree → (x : Reading) × (found ≡ Some (x, [])) × (x.tree ≡ tree)
whole-some None tree h = absurd (none_some h)
whole-some (Some f) tree h = let e = whole_tree-some f.0 f.1 tree h in (f.0, ap (λ rest. Some (f.0, rest)) e.0, e.1)

-- what is read is an expression
written_of : (ts : List TokenKind) (tree : Tree) → whole (climb 200 0 ts) ≡ Some tree → IsExpression ts tree
written_of ts tree h =
    let w = whole-some (climb 200 0 ts) tree h in
    let r = climb-reads 200 0 ts (w.0, []) (omega arith) w.1 in
    record {
      written = r.written;
      levelled = r.levelled;
      shallow = r.shallow;
      spelt = sym (append-nil _) ∙ r.spelt;
      tree_is = ap (λ x. x.tree) r.seen_as ∙ w.2;
    }

-- tokens spell at most one tree
pub one_tree : {ts : List TokenKind} {a b : Tree} → IsExpression ts a → IsExpression ts b → a ≡ b
one_tree {ts} {a} {b} h k = some_some (sym (read_of ts a h) ∙ read_of ts b k)

-- a reading of the whole tokens is exact
pub exactly : (ts : List TokenKind) (result : Result RawExpr ExpressionEnd) → ReadsAs result (whole (climb 200 0 ts)) → ExpressionIs ts result
exactly ts (Ok e) h = (written_of ts (tree_of e) h, λ other k. some_some (sym (read_of ts other k) ∙ h))
exactly ts (Err end.NoForm) h = λ tree k. none_some (sym h ∙ read_of ts tree k)
exactly ts (Err end.NoMemory) h = tt

-- a failure of the reading is one of the whole
pub fails_whole : (e : ExpressionEnd) (found : Found) → Gives (Err e) found → ReadsAs (Err e) (whole found)
fails_whole end.NoForm found h = ap whole h
fails_whole end.NoMemory found h = tt
