-- The arguments of a call: nothing, or in parentheses expressions with commas between them, each with a depth of its own.
use Rattle.std.specs.Prelude.{◌≡◌, ◌⊎◌, List, [], ◌∷◌, ◌++◌, map, Result, Ok, Err}
use Rattle.il_core.specs.Tree.{Tree, tree_of}
use Rattle.il_core.specs.declared.statement.RawExpr.{RawExpr}
use Rattle.il_core.specs.declared.token.Symbol.TheVariants as s
use Rattle.il_core.specs.declared.token.TokenKind.{TokenKind}
use Rattle.il_core.specs.declared.token.TokenKind.TheVariants.{Symbol}
use Rattle.il_syntax.specs.declared.expression.ExpressionEnd.{ExpressionEnd}
use Rattle.il_syntax.specs.declared.expression.ExpressionEnd.TheVariants as end
use Rattle.il_syntax.specs.Expression.{IsExpression}

-- expressions with commas between them, at least one
abbrev pub AreListed : List TokenKind → List Tree → Type 0
AreListed tokens [] = ⊥
AreListed tokens (tree ∷ trees) = (IsExpression tokens tree × (trees ≡ [])) ⊎ ((front : List TokenKind) × (behind : List TokenKind) × (tokens ≡ front ++ Symbol s.Comma ∷ behind) × IsExpression front tree × AreListed behind trees)

-- what stands behind the name that a call names
abbrev pub AreArguments : List TokenKind → List Tree → Type 0
AreArguments tokens [] = tokens ≡ []
AreArguments tokens (tree ∷ trees) = (inner : List TokenKind) × (tokens ≡ Symbol s.LeftParen ∷ (inner ++ Symbol s.RightParen ∷ [])) × AreListed inner (tree ∷ trees)

-- the one list of trees of which something holds, or that it holds of none
abbrev pub OneGives : (List Tree → Type 0) → Result (List RawExpr) ExpressionEnd → Type 0
OneGives Are (Ok es) = Are (map tree_of es) × ((others : List Tree) → Are others → others ≡ map tree_of es)
OneGives Are (Err end.NoForm) = (trees : List Tree) → Are trees → ⊥
OneGives Are (Err end.NoMemory) = Unit {0}

abbrev pub ListedGive : List TokenKind → Result (List RawExpr) ExpressionEnd → Type 0
ListedGive tokens = OneGives (AreListed tokens)

abbrev pub ArgumentsGive : List TokenKind → Result (List RawExpr) ExpressionEnd → Type 0
ArgumentsGive tokens = OneGives (AreArguments tokens)
