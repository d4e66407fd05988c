-- The kind of an expression over the declarations in force at a statement: a whole number, a truth value or a value of one enumeration.
use Rattle.std.specs.Prelude.{ℕ, suc, ℤ, Bool, List}
use Rattle.il_core.specs.Statement.{Statement, Placed, constant_is, range_type, wrap_type, enum_type, variable, pre, post, assign, if_true, exit_when, assert}
use Rattle.il_core.specs.Tree.{Tree}
use Rattle.il_core.specs.Tree as tree
use Rattle.il_core.specs.declared.operator.BinOp.{BinOp}
use Rattle.il_core.specs.declared.operator.BinOp.TheVariants.{Add, Sub, Mul, Div, Mod, Compare, And, Or}
use Rattle.il_core.specs.declared.operator.Relation.{Relation}
use Rattle.il_core.specs.declared.operator.Relation.TheVariants.{Eq, Ne}
use Rattle.il_core.specs.declared.statement.Bound.{Bound}
use Rattle.il_core.specs.declared.statement.Bound.TheVariants as bound
use Rattle.il_core.specs.declared.statement.Mode.{Mode}
use Rattle.il_core.specs.declared.statement.TypeUse.{TypeUse}
use Rattle.il_core.specs.declared.statement.TypeUse.TheVariants as use_
use Rattle.il_types.specs.declared.kind.Kind.{Kind}
use Rattle.il_types.specs.declared.kind.Kind.TheVariants.{Whole, Truth, Enumeration}
use Rattle.typing_laws.specs.Declared.{Says, InForce}

-- the k-th name of statement j stands for what the statement says, where it is in force at statement i
pub record StandsFor (stmts : List Placed) (i : ℕ) (name : List ℕ) (j k : ℕ) (x : Statement) : Type 0 where
  pub force : InForce stmts i name j k
  pub says : Says stmts j x

-- the values of a type at statement i are of a kind; an enumeration is known by the statement that declares it
pub data HasValues (stmts : List Placed) (i : ℕ) : TypeUse → Kind → Type 0 where
  truths : HasValues stmts i use_.Bool Truth
  range : (least greatest : Bound) → HasValues stmts i (use_.Range least greatest) Whole
  wrapping : (least greatest : Bound) → HasValues stmts i (use_.Wrap least greatest) Whole
  named_range : (name called : List ℕ) (j : ℕ) (least greatest : Bound) → StandsFor stmts i name j 0 (range_type called least greatest)
      → HasValues stmts i (use_.Named name) Whole
  named_wrapping : (name called : List ℕ) (j : ℕ) (least greatest : Bound) → StandsFor stmts i name j 0 (wrap_type called least greatest)
      → HasValues stmts i (use_.Named name) Whole
  named_enumeration : (name called : List ℕ) (j : ℕ) (values : List (List ℕ)) → StandsFor stmts i name j 0 (enum_type called values)
      → HasValues stmts i (use_.Named name) (Enumeration j)

-- a name stands for a variable of a kind
pub record IsVariableOf (stmts : List Placed) (i : ℕ) (name : List ℕ) (kind : Kind) : Type 0 where
  pub at : ℕ
  pub mode : Mode
  pub called : List ℕ
  pub type : TypeUse
  pub stands : StandsFor stmts i name at 0 (variable mode called type)
  pub values : HasValues stmts at type kind

-- the operators that take and give whole numbers, and those that take and give truth values
pub data IsArithmetic : BinOp → Type 0 where
  sum : IsArithmetic Add
  difference : IsArithmetic Sub
  product : IsArithmetic Mul
  quotient : IsArithmetic Div
  remainder : IsArithmetic Mod

pub data IsLogical : BinOp → Type 0 where
  conjunction : IsLogical And
  disjunction : IsLogical Or

pub data IsEquality : Relation → Type 0 where
  equal : IsEquality Eq
  unequal : IsEquality Ne

-- an expression at statement i is of a kind
pub data Typed (stmts : List Placed) (i : ℕ) : Tree → Kind → Type 0 where
  number : (n : ℕ) → Typed stmts i (tree.number n) Whole
  truth : (b : Bool) → Typed stmts i (tree.constant b) Truth
  constant : (name called : List ℕ) (j : ℕ) (value : ℤ) → StandsFor stmts i name j 0 (constant_is called value) → Typed stmts i (tree.word name) Whole
  value : (name called : List ℕ) (j k : ℕ) (values : List (List ℕ)) → StandsFor stmts i name j (suc k) (enum_type called values)
      → Typed stmts i (tree.word name) (Enumeration j)
  variable_now : (name : List ℕ) (kind : Kind) → IsVariableOf stmts i name kind → Typed stmts i (tree.word name) kind
  variable_old : (name : List ℕ) (kind : Kind) → IsVariableOf stmts i name kind → Typed stmts i (tree.former name) kind
  minus : (e : Tree) → Typed stmts i e Whole → Typed stmts i (tree.minus e) Whole
  opposite : (e : Tree) → Typed stmts i e Truth → Typed stmts i (tree.opposite e) Truth
  calculated : (o : BinOp) (a b : Tree) → IsArithmetic o → Typed stmts i a Whole → Typed stmts i b Whole → Typed stmts i (tree.two o a b) Whole
  joined : (o : BinOp) (a b : Tree) → IsLogical o → Typed stmts i a Truth → Typed stmts i b Truth → Typed stmts i (tree.two o a b) Truth
  compared : (r : Relation) (a b : Tree) → Typed stmts i a Whole → Typed stmts i b Whole → Typed stmts i (tree.two (Compare r) a b) Truth
  same : (r : Relation) (a b : Tree) (j : ℕ) → IsEquality r → Typed stmts i a (Enumeration j) → Typed stmts i b (Enumeration j)
      → Typed stmts i (tree.two (Compare r) a b) Truth

-- the number that an end of a range is
pub data IsEnd (stmts : List Placed) (i : ℕ) : Bound → ℤ → Type 0 where
  literal : (n : ℤ) → IsEnd stmts i (bound.Number n) n
  named : (name called : List ℕ) (j : ℕ) (value : ℤ) → StandsFor stmts i name j 0 (constant_is called value) → IsEnd stmts i (bound.Constant name) value

pub record AreEnds (stmts : List Placed) (i : ℕ) (least greatest : Bound) : Type 0 where
  pub low : ℤ
  pub high : ℤ
  pub is_low : IsEnd stmts i least low
  pub is_high : IsEnd stmts i greatest high

-- a type may be used at statement i: its name stands for a type, and the ends of its range are numbers
abbrev pub IsType : List Placed → ℕ → TypeUse → Type 0
IsType stmts i use_.Bool = Unit {0}
IsType stmts i (use_.Named name) = (kind : Kind) × HasValues stmts i (use_.Named name) kind
IsType stmts i (use_.Range least greatest) = AreEnds stmts i least greatest
IsType stmts i (use_.Wrap least greatest) = AreEnds stmts i least greatest

-- a variable takes a value of its own kind
pub record IsTaken (stmts : List Placed) (i : ℕ) (name : List ℕ) (e : Tree) : Type 0 where
  pub kind : Kind
  pub target : IsVariableOf stmts i name kind
  pub value : Typed stmts i e kind

-- statement i keeps the rules on types
abbrev pub WellTyped : List Placed → ℕ → Statement → Type 0
WellTyped stmts i (range_type _ least greatest) = AreEnds stmts i least greatest
WellTyped stmts i (wrap_type _ least greatest) = AreEnds stmts i least greatest
WellTyped stmts i (variable _ _ type) = IsType stmts i type
WellTyped stmts i (pre e) = Typed stmts i e Truth
WellTyped stmts i (post e) = Typed stmts i e Truth
WellTyped stmts i (assign name e) = IsTaken stmts i name e
WellTyped stmts i (if_true e) = Typed stmts i e Truth
WellTyped stmts i (exit_when e) = Typed stmts i e Truth
WellTyped stmts i (assert e) = Typed stmts i e Truth
WellTyped stmts i _ = Unit {0}
