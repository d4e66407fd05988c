-- The parts of statements and of expressions: the expression of a statement, with the part of a procedure in which it stands, its range, and
-- the expressions inside an expression.
use Rattle.std.specs.Prelude.{List, ℕ}
use Rattle.il_core.specs.Statement.{Statement, range_type, wrap_type, variable, pre, post, assign, if_true, exit_when, assert}
use Rattle.il_core.specs.Tree.{Tree}
use Rattle.il_core.specs.Tree as tree
use Rattle.il_core.specs.declared.operator.BinOp.{BinOp}
use Rattle.il_core.specs.declared.statement.Bound.{Bound}
use Rattle.il_core.specs.declared.statement.Mode.{Mode}
use Rattle.il_core.specs.declared.statement.TypeUse.TheVariants as use_
use Rattle.il_types.specs.declared.modes.Part.{Part}
use Rattle.il_types.specs.declared.modes.Part.TheVariants.{Precondition, Postcondition, Assertion, Action}

pub data HasExpression : Statement → Part → Tree → Type 0 where
  of_pre : (e : Tree) → HasExpression (pre e) Precondition e
  of_post : (e : Tree) → HasExpression (post e) Postcondition e
  of_assert : (e : Tree) → HasExpression (assert e) Assertion e
  of_assignment : (name : List ℕ) (e : Tree) → HasExpression (assign name e) Action e
  of_if : (e : Tree) → HasExpression (if_true e) Action e
  of_exit : (e : Tree) → HasExpression (exit_when e) Action e

pub data HasRange : Statement → Bound → Bound → Type 0 where
  of_type : (name : List ℕ) (least greatest : Bound) → HasRange (range_type name least greatest) least greatest
  of_wrapping : (name : List ℕ) (least greatest : Bound) → HasRange (wrap_type name least greatest) least greatest
  of_variable : (mode : Mode) (name : List ℕ) (least greatest : Bound) → HasRange (variable mode name (use_.Range least greatest)) least greatest
  of_wrapping_variable : (mode : Mode) (name : List ℕ) (least greatest : Bound) → HasRange (variable mode name (use_.Wrap least greatest)) least greatest

pub data IsPart (part : Tree) : Tree → Type 0 where
  whole : IsPart part part
  of_minus : (e : Tree) → IsPart part e → IsPart part (tree.minus e)
  of_opposite : (e : Tree) → IsPart part e → IsPart part (tree.opposite e)
  of_left : (o : BinOp) (a b : Tree) → IsPart part a → IsPart part (tree.two o a b)
  of_right : (o : BinOp) (a b : Tree) → IsPart part b → IsPart part (tree.two o a b)
