-- A checked expression without the pointers that hold it.
use Rattle.std.specs.Prelude.{ℕ, ℤ, Bool}
use Rattle.il_core.specs.declared.operator.BinOp.{BinOp}
use Rattle.il_core.specs.declared.line.Expr.{Expr, Neg', Not', Binary'}
use Rattle.il_core.specs.declared.line.Expr.TheVariants.{Num, Var, Flag, Truth}

pub data Expression : Type 0 where
  number : ℤ → Expression
  variable : ℕ → Expression
  flag : ℕ → Expression
  truth : Bool → Expression
  minus : Expression → Expression
  opposite : Expression → Expression
  two : BinOp → Expression → Expression → Expression

-- the expression that an `Expr` holds
abbrev pub expression_of : Expr → Expression
expression_of (Num n) = number n
expression_of (Var p) = variable p
expression_of (Flag p) = flag p
expression_of (Truth b) = truth b
expression_of (Neg' p e) = minus (expression_of e)
expression_of (Not' p e) = opposite (expression_of e)
expression_of (Binary' o p a q b) = two o (expression_of a) (expression_of b)
