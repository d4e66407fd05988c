-- A tree is an expression as it is written, without its parentheses and without the pointers that hold it.
use Rattle.std.specs.Prelude.{ℕ, Bool, List}
use Rattle.il_core.specs.declared.operator.BinOp.{BinOp}
use Rattle.il_core.specs.declared.statement.RawExpr.{RawExpr, Neg', Not', Binary'}
use Rattle.il_core.specs.declared.statement.RawExpr.TheVariants.{Num, Ident, Old, Truth}

pub data Tree : Type 0 where
  number : ℕ → Tree
  word : List ℕ → Tree
  former : List ℕ → Tree
  constant : Bool → Tree
  minus : Tree → Tree
  opposite : Tree → Tree
  two : BinOp → Tree → Tree → Tree

-- the tree of an expression
abbrev pub tree_of : RawExpr → Tree
tree_of (Num n) = number n
tree_of (Ident name) = word name
tree_of (Old name) = former name
tree_of (Truth b) = constant b
tree_of (Neg' p e) = minus (tree_of e)
tree_of (Not' p e) = opposite (tree_of e)
tree_of (Binary' o p a q b) = two o (tree_of a) (tree_of b)
