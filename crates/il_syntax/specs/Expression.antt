-- Tokens are an expression with this tree where they spell some written form of it: one whose parentheses the tree
-- drops, whose sides need no further parentheses by the levels of their operators, and whose depth is at most 200.
use Rattle.std.specs.Prelude.{◌≡◌, ℕ, ◌+◌, ◌≤◌, max, Bool, true, false, List, [], ◌∷◌, ◌++◌, map, Result, Ok, Err}
use Rattle.il_core.specs.Tree as tree
use Rattle.il_core.specs.Tree.{Tree, tree_of}
use Rattle.il_core.specs.declared.operator.BinOp.{BinOp}
use Rattle.il_core.specs.declared.operator.BinOp.TheVariants.{Add, Sub, Mul, Div, Mod, Compare, And, Or}
use Rattle.il_core.specs.declared.operator.Relation.{Relation}
use Rattle.il_core.specs.declared.operator.Relation.TheVariants.{Eq, Ne, Lt, Le, Gt, Ge}
use Rattle.il_core.specs.declared.statement.RawExpr.{RawExpr}
use Rattle.il_core.specs.declared.token.Keyword.TheVariants as k
use Rattle.il_core.specs.declared.token.Symbol.TheVariants as s
use Rattle.il_core.specs.declared.token.Token.{Token}
use Rattle.il_core.specs.declared.token.TokenKind.{TokenKind}
use Rattle.il_core.specs.declared.token.TokenKind.TheVariants as kind
use Rattle.il_syntax.specs.declared.expression.ExpressionEnd.{ExpressionEnd}
use Rattle.il_syntax.specs.declared.expression.ExpressionEnd.TheVariants as end

-- what tokens are, in their order
abbrev pub kinds : List Token → List TokenKind
kinds tokens = map (λ t. t.kind) tokens

-- an expression with its parentheses
pub data Written : Type 0 where
  number : ℕ → Written
  word : List ℕ → Written
  former : List ℕ → Written
  constant : Bool → Written
  enclosed : Written → Written
  minus : Written → Written
  opposite : Written → Written
  two : BinOp → Written → Written → Written

-- the token of a relation, and of an operator with two sides
abbrev pub relation_kind : Relation → TokenKind
relation_kind Eq = kind.Symbol s.Equal
relation_kind Ne = kind.Symbol s.Unequal
relation_kind Lt = kind.Symbol s.Less
relation_kind Le = kind.Symbol s.AtMost
relation_kind Gt = kind.Symbol s.Greater
relation_kind Ge = kind.Symbol s.AtLeast

abbrev pub operator_kind : BinOp → TokenKind
operator_kind Add = kind.Symbol s.Plus
operator_kind Sub = kind.Symbol s.Minus
operator_kind Mul = kind.Symbol s.Times
operator_kind Div = kind.Key k.KwDiv
operator_kind Mod = kind.Key k.KwMod
operator_kind (Compare relation) = relation_kind relation
operator_kind And = kind.Key k.KwAnd
operator_kind Or = kind.Key k.KwOr

-- the tokens that spell an expression
abbrev pub spelling : Written → List TokenKind
spelling (number n) = kind.Number n ∷ []
spelling (word name) = kind.Ident name ∷ []
spelling (former name) = kind.Key k.KwOld ∷ kind.Ident name ∷ []
spelling (constant true) = kind.Key k.KwTrue ∷ []
spelling (constant false) = kind.Key k.KwFalse ∷ []
spelling (enclosed inner) = kind.Symbol s.LeftParen ∷ (spelling inner ++ kind.Symbol s.RightParen ∷ [])
spelling (minus inner) = kind.Symbol s.Minus ∷ spelling inner
spelling (opposite inner) = kind.Key k.KwNot ∷ spelling inner
spelling (two op left right) = spelling left ++ operator_kind op ∷ spelling right

-- the level of an operator: the higher, the closer it binds. OR, AND, NOT, comparisons, sums, products are 0 to 5, and what
-- needs no parentheses anywhere is 6
abbrev pub own_level : BinOp → ℕ
own_level Or = 0
own_level And = 1
own_level (Compare _) = 3
own_level Add = 4
own_level Sub = 4
own_level Mul = 5
own_level Div = 5
own_level Mod = 5

-- the least level of its left side: its own, since operators of one level group to the left, but comparisons do not chain
abbrev pub left_level : BinOp → ℕ
left_level (Compare _) = 4
left_level op = own_level op

-- the level of an expression: NOT stands between AND and comparisons, a leading minus with the sums
abbrev pub level : Written → ℕ
level (number _) = 6
level (word _) = 6
level (former _) = 6
level (constant _) = 6
level (enclosed _) = 6
level (minus _) = 4
level (opposite _) = 2
level (two op _ _) = own_level op

-- each side is of a level that needs no parentheses there: a leading minus stands before a product, NOT before a comparison
-- or another NOT, and the right side of an operator binds closer than it
abbrev pub IsLevelled : Written → Type 0
IsLevelled (number _) = Unit {0}
IsLevelled (word _) = Unit {0}
IsLevelled (former _) = Unit {0}
IsLevelled (constant _) = Unit {0}
IsLevelled (enclosed inner) = IsLevelled inner
IsLevelled (minus inner) = (5 ≤ level inner) × IsLevelled inner
IsLevelled (opposite inner) = (2 ≤ level inner) × IsLevelled inner
IsLevelled (two op left right) = (left_level op ≤ level left) × (own_level op + 1 ≤ level right) × IsLevelled left × IsLevelled right

-- the depth, in which parentheses count
abbrev pub depth : Written → ℕ
depth (number _) = 1
depth (word _) = 1
depth (former _) = 1
depth (constant _) = 1
depth (enclosed inner) = depth inner + 1
depth (minus inner) = depth inner + 1
depth (opposite inner) = depth inner + 1
depth (two _ left right) = max (depth left) (depth right) + 1

-- the tree, which has no parentheses
abbrev pub bare : Written → Tree
bare (number n) = tree.number n
bare (word name) = tree.word name
bare (former name) = tree.former name
bare (constant b) = tree.constant b
bare (enclosed inner) = bare inner
bare (minus inner) = tree.minus (bare inner)
bare (opposite inner) = tree.opposite (bare inner)
bare (two op left right) = tree.two op (bare left) (bare right)

-- these tokens are an expression with this tree
pub record IsExpression (tokens : List TokenKind) (tree : Tree) : Type 0 where
  pub written : Written
  pub levelled : IsLevelled written
  pub shallow : depth written ≤ 200
  pub spelt : spelling written ≡ tokens
  pub tree_is : bare written ≡ tree

-- what the reading of an expression answers: its one tree, or that there is none
abbrev pub ExpressionIs : List TokenKind → Result RawExpr ExpressionEnd → Type 0
ExpressionIs tokens (Ok e) = IsExpression tokens (tree_of e) × ((other : Tree) → IsExpression tokens other → other ≡ tree_of e)
ExpressionIs tokens (Err end.NoForm) = (tree : Tree) → IsExpression tokens tree → ⊥
ExpressionIs tokens (Err end.NoMemory) = Unit {0}
