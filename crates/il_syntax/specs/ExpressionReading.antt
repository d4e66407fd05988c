-- How an expression is read from the front of tokens: its first operand, then operators of a level that is high enough,
-- each with its right side. Only private functions are stated by this reading; `IsExpression` knows nothing of it.
use Rattle.std.specs.Prelude.{◌≡◌, ℕ, zero, suc, ◌+◌, max, nat_le, ◌&&◌, Bool, true, false, if◌then◌else◌, List, [], ◌∷◌, Option, Some, None, Result, Ok, Err}
use Rattle.std.specs.Borrow.{Bor}
use Rattle.il_core.specs.Tree as tree
use Rattle.il_core.specs.Tree.{Tree, tree_of}
use Rattle.il_core.specs.declared.operator.BinOp.{BinOp}
use Rattle.il_core.specs.declared.operator.BinOp.TheVariants.{Add, Sub, Mul, Div, Mod, Compare, And, Or}
use Rattle.il_core.specs.declared.operator.Relation.TheVariants.{Eq, Ne, Lt, Le, Gt, Ge}
use Rattle.il_core.specs.declared.statement.RawExpr.{RawExpr}
use Rattle.il_core.specs.declared.token.Keyword.TheVariants as k
use Rattle.il_core.specs.declared.token.Symbol.TheVariants as s
use Rattle.il_core.specs.declared.token.Token.{Token}
use Rattle.il_core.specs.declared.token.TokenKind.{TokenKind}
use Rattle.il_core.specs.declared.token.TokenKind.TheVariants as kind
use Rattle.il_syntax.specs.Expression.{kinds, own_level, left_level}
use Rattle.il_syntax.specs.declared.expression.ExpressionEnd.{ExpressionEnd}
use Rattle.il_syntax.specs.declared.expression.ExpressionEnd.TheVariants as end
use Rattle.il_syntax.specs.declared.expression.Seen.{Seen}

-- what was read: its tree, the level and the depth of what is written
pub record Reading : Type 0 where
  pub tree : Tree
  pub level : ℕ
  pub depth : ℕ

abbrev pub view : Seen → Reading
view seen = record { tree = tree_of seen.tree; level = seen.level; depth = seen.depth }

-- a reading and the tokens behind it, where there is one
abbrev pub Found : Type 0
Found = Option (Reading × List TokenKind)

infixl 10 ◌>>=◌
abbrev pub ◌>>=◌ : Found → (Reading × List TokenKind → Found) → Found
None >>= f = None
Some found >>= f = f found

-- what is read from the least level on at the front of tokens
abbrev pub Reader : Type 0
Reader = ℕ → List TokenKind → Found

-- what a function of the reader answers
abbrev pub Gives : Result (Seen × Bor (List Token)) ExpressionEnd → Found → Type 0
Gives (Ok found) reading = reading ≡ Some (view found.0, kinds found.1.now)
Gives (Err end.NoForm) reading = reading ≡ None
Gives (Err end.NoMemory) reading = Unit {0}

-- what is made of readings
abbrev pub leaf : Tree → Reading
leaf t = record { tree = t; level = 6; depth = 1 }

abbrev pub enclosing : Reading → Reading
enclosing x = record { tree = x.tree; level = 6; depth = x.depth + 1 }

abbrev pub negated : Reading → Reading
negated x = record { tree = tree.minus x.tree; level = 4; depth = x.depth + 1 }

abbrev pub opposed : Reading → Reading
opposed x = record { tree = tree.opposite x.tree; level = 2; depth = x.depth + 1 }

abbrev pub joined : BinOp → Reading → Reading → Reading
joined op x y = record { tree = tree.two op x.tree y.tree; level = own_level op; depth = max x.depth y.depth + 1 }

-- the operator with two sides that a token is
abbrev pub operator_of : TokenKind → Option BinOp
operator_of (kind.Key k.KwOr) = Some Or
operator_of (kind.Key k.KwAnd) = Some And
operator_of (kind.Key k.KwDiv) = Some Div
operator_of (kind.Key k.KwMod) = Some Mod
operator_of (kind.Symbol s.Plus) = Some Add
operator_of (kind.Symbol s.Minus) = Some Sub
operator_of (kind.Symbol s.Times) = Some Mul
operator_of (kind.Symbol s.Equal) = Some (Compare Eq)
operator_of (kind.Symbol s.Unequal) = Some (Compare Ne)
operator_of (kind.Symbol s.Less) = Some (Compare Lt)
operator_of (kind.Symbol s.AtMost) = Some (Compare Le)
operator_of (kind.Symbol s.Greater) = Some (Compare Gt)
operator_of (kind.Symbol s.AtLeast) = Some (Compare Ge)
operator_of _ = None

-- an operator that may stand behind a left side of this level, where operators from the least level on are read
abbrev pub fitting : ℕ → ℕ → List TokenKind → Option BinOp → Option (BinOp × List TokenKind)
fitting least level ts None = None
fitting least level ts (Some op) = if nat_le least (own_level op) && nat_le (left_level op) level then Some (op, ts) else None

-- such an operator at the front of tokens, and the tokens behind it
abbrev pub next_operator : ℕ → ℕ → List TokenKind → Option (BinOp × List TokenKind)
next_operator least level [] = None
next_operator least level (t ∷ ts) = fitting least level ts (operator_of t)

-- what the search of such an operator answers
abbrev pub NextIs : Option (BinOp × Bor (List Token)) → Option (BinOp × List TokenKind) → Type 0
NextIs None next = next ≡ None
NextIs (Some found) next = next ≡ Some (found.0, kinds found.1.now)

-- one operator with its right side, where it comes; what follows is read by `after`
abbrev pub one_operator : (Reading → List TokenKind → Found) → Reader → ℕ → Reading → List TokenKind → Option (BinOp × List TokenKind) → Found
one_operator after inner room x ts None = Some (x, ts)
one_operator after inner room x ts (Some c) = if nat_le x.depth room then inner (own_level c.0 + 1) c.1 >>= (λ y. after (joined c.0 x y.0) y.1) else None

-- operators with their right sides, fewer than `count`
unfoldable pub further : Reader → ℕ → ℕ → ℕ → Reading → List TokenKind → Found
further inner zero room least x ts = one_operator (λ _ _. None) inner room x ts (next_operator least x.level ts)
further inner (suc count) room least x ts = one_operator (further inner count room least) inner room x ts (next_operator least x.level ts)

-- what is enclosed, at its closing parenthesis
abbrev pub closed : Reading → List TokenKind → Found
closed x (kind.Symbol s.RightParen ∷ ts) = Some (enclosing x, ts)
closed x _ = None

-- the name behind OLD
abbrev pub former_at : List TokenKind → Found
former_at (kind.Ident name ∷ ts) = Some (leaf (tree.former name), ts)
former_at _ = None

-- a leading minus or NOT, where its level is high enough
abbrev pub leading : Bool → (Reading → Reading) → Found → Found
leading true make found = found >>= (λ x. Some (make x.0, x.1))
leading false make found = None

-- the first operand
abbrev pub first_operand : Reader → Reader
first_operand inner least [] = None
first_operand inner least (kind.Number n ∷ ts) = Some (leaf (tree.number n), ts)
first_operand inner least (kind.Ident name ∷ ts) = Some (leaf (tree.word name), ts)
first_operand inner least (kind.Key k.KwOld ∷ ts) = former_at ts
first_operand inner least (kind.Key k.KwTrue ∷ ts) = Some (leaf (tree.constant true), ts)
first_operand inner least (kind.Key k.KwFalse ∷ ts) = Some (leaf (tree.constant false), ts)
first_operand inner least (kind.Key k.KwNot ∷ ts) = leading (nat_le least 2) opposed (inner 2 ts)
first_operand inner least (kind.Symbol s.LeftParen ∷ ts) = inner 0 ts >>= (λ x. closed x.0 x.1)
first_operand inner least (kind.Symbol s.Minus ∷ ts) = leading (nat_le least 4) negated (inner 5 ts)
first_operand inner least (_ ∷ ts) = None

-- an expression of a depth that has room, from the least level on
unfoldable pub climb : ℕ → Reader
climb zero least ts = None
climb (suc room) least ts = first_operand (climb room) least ts >>= (λ x. further (climb room) (room + 1) room least x.0 x.1)

-- the tree of a reading that leaves no token
abbrev pub whole_tree : Reading → List TokenKind → Option Tree
whole_tree x [] = Some x.tree
whole_tree x (_ ∷ ts) = None

abbrev pub whole : Found → Option Tree
whole None = None
whole (Some found) = whole_tree found.0 found.1

-- what the reader of a whole expression answers
abbrev pub ReadsAs : Result RawExpr ExpressionEnd → Option Tree → Type 0
ReadsAs (Ok e) read = read ≡ Some (tree_of e)
ReadsAs (Err end.NoForm) read = read ≡ None
ReadsAs (Err end.NoMemory) read = Unit {0}
