-- The static bounds of an expression for whole numbers, or of one enumeration, over the declarations in force at a statement; a condition has none.
use Rattle.std.specs.Prelude.{ℕ, suc, ◌-◌, ℤ, pos, List, length}
use Rattle.il_core.specs.Bounds.{Bounds, AreSmall, only, operator_bounds}
use Rattle.il_core.specs.Statement.{Statement, Placed, constant_is, range_type, wrap_type, enum_type, variable}
use Rattle.il_core.specs.Tree.{Tree}
use Rattle.il_core.specs.Tree as tree
use Rattle.il_core.specs.declared.operator.BinOp.{BinOp}
use Rattle.il_core.specs.declared.statement.Bound.{Bound}
use Rattle.il_core.specs.declared.statement.Mode.{Mode}
use Rattle.il_core.specs.declared.statement.TypeUse.{TypeUse}
use Rattle.il_core.specs.declared.statement.TypeUse.TheVariants as use_
use Rattle.il_types.specs.Narrow.{opposite_bounds}
use Rattle.typing_laws.specs.Declared.{Says}
use Rattle.typing_laws.specs.Parts.{IsPart}
use Rattle.typing_laws.specs.Typed.{StandsFor, IsArithmetic, IsEnd, WellTyped}

abbrev pub between : ℤ → ℤ → Bounds
between low high = record { low = low; high = high }

-- two ends at statement i lie at these numbers
pub record LieAt (stmts : List Placed) (i : ℕ) (least greatest : Bound) (b : Bounds) : Type 0 where
  pub is_low : IsEnd stmts i least b.low
  pub is_high : IsEnd stmts i greatest b.high

-- the least and the greatest value of a type at statement i; n values of an enumeration are 0 to n - 1
pub data HasLimits (stmts : List Placed) (i : ℕ) : TypeUse → Bounds → Type 0 where
  range : (least greatest : Bound) (b : Bounds) → LieAt stmts i least greatest b → HasLimits stmts i (use_.Range least greatest) b
  wrapping : (least greatest : Bound) (b : Bounds) → LieAt stmts i least greatest b → HasLimits stmts i (use_.Wrap least greatest) b
  named_range : (name called : List ℕ) (j : ℕ) (least greatest : Bound) (b : Bounds) → StandsFor stmts i name j 0 (range_type called least greatest)
      → LieAt stmts j least greatest b → HasLimits stmts i (use_.Named name) b
  named_wrapping : (name called : List ℕ) (j : ℕ) (least greatest : Bound) (b : Bounds) → StandsFor stmts i name j 0 (wrap_type called least greatest)
      → LieAt stmts j least greatest b → HasLimits stmts i (use_.Named name) b
  named_enumeration : (name called : List ℕ) (j : ℕ) (values : List (List ℕ)) → StandsFor stmts i name j 0 (enum_type called values)
      → HasLimits stmts i (use_.Named name) (between (pos 0) (pos (length values - 1)))

-- a name stands for a variable whose type has these limits
pub record IsVariableWithin (stmts : List Placed) (i : ℕ) (name : List ℕ) (b : Bounds) : Type 0 where
  pub at : ℕ
  pub mode : Mode
  pub called : List ℕ
  pub type : TypeUse
  pub stands : StandsFor stmts i name at 0 (variable mode called type)
  pub limits : HasLimits stmts at type b

-- an expression at statement i has static bounds
pub data Bounded (stmts : List Placed) (i : ℕ) : Tree → Bounds → Type 0 where
  number : (n : ℕ) → Bounded stmts i (tree.number n) (only (pos n))
  constant : (name called : List ℕ) (j : ℕ) (v : ℤ) → StandsFor stmts i name j 0 (constant_is called v) → Bounded stmts i (tree.word name) (only v)
  value : (name called : List ℕ) (j k : ℕ) (values : List (List ℕ)) → StandsFor stmts i name j (suc k) (enum_type called values)
      → Bounded stmts i (tree.word name) (only (pos k))
  variable_now : (name : List ℕ) (b : Bounds) → IsVariableWithin stmts i name b → Bounded stmts i (tree.word name) b
  variable_old : (name : List ℕ) (b : Bounds) → IsVariableWithin stmts i name b → Bounded stmts i (tree.former name) b
  minus : (e : Tree) (b : Bounds) → Bounded stmts i e b → Bounded stmts i (tree.minus e) (opposite_bounds b)
  calculated : (o : BinOp) (d e : Tree) (a b : Bounds) → IsArithmetic o → Bounded stmts i d a → Bounded stmts i e b → Bounded stmts i (tree.two o d e) (operator_bounds o a b)

-- no part of an expression has static bounds outside 2 ^ 126 on either side of 0
abbrev pub HasSmallParts : List Placed → ℕ → Tree → Type 0
HasSmallParts stmts i e = (part : Tree) (b : Bounds) → IsPart part e → Bounded stmts i part b → AreSmall b

-- each statement keeps the rules on types
abbrev pub AllWellTyped : List Placed → Type 0
AllWellTyped stmts = (i : ℕ) (x : Statement) → Says stmts i x → WellTyped stmts i x
