-- The ways in which a statement breaks the rules on modes and on ranges.
use Rattle.std.specs.Prelude.{ℕ, ℤ, ◌<ℤ◌, List}
use Rattle.il_core.specs.Statement.{Statement, Placed, variable, assign}
use Rattle.il_core.specs.Tree.{Tree}
use Rattle.il_core.specs.Tree as tree
use Rattle.il_core.specs.declared.statement.Bound.{Bound}
use Rattle.il_core.specs.declared.statement.Mode.{Mode}
use Rattle.il_core.specs.declared.statement.Mode.TheVariants.{Input, InOut, Output, Local}
use Rattle.il_core.specs.declared.statement.TypeUse.{TypeUse}
use Rattle.il_types.specs.declared.modes.Part.{Part}
use Rattle.il_types.specs.declared.modes.Part.TheVariants.{Precondition, Postcondition, Action}
use Rattle.typing_laws.specs.Parts.{HasExpression, HasRange, IsPart}
use Rattle.typing_laws.specs.Typed.{StandsFor, IsEnd}

-- a name stands for a variable of a mode
pub record HasMode (stmts : List Placed) (i : ℕ) (name : List ℕ) (mode : Mode) : Type 0 where
  pub at : ℕ
  pub called : List ℕ
  pub type : TypeUse
  pub stands : StandsFor stmts i name at 0 (variable mode called type)

-- an IN variable is assigned, OLD names another than an INOUT variable or stands outside PRE, POST and ASSERT, PRE names an OUT or LOCAL
-- variable, or POST a LOCAL one
pub data BreaksModes (stmts : List Placed) (i : ℕ) : Statement → Type 0 where
  assigns_input : (name : List ℕ) (e : Tree) → HasMode stmts i name Input → BreaksModes stmts i (assign name e)
  recalls_other : (x : Statement) (part : Part) (e : Tree) (name : List ℕ) → HasExpression x part e → IsPart (tree.former name) e → (HasMode stmts i name InOut → ⊥)
      → BreaksModes stmts i x
  recalls_in_action : (x : Statement) (e : Tree) (name : List ℕ) → HasExpression x Action e → IsPart (tree.former name) e → BreaksModes stmts i x
  output_in_precondition : (x : Statement) (e : Tree) (name : List ℕ) → HasExpression x Precondition e → IsPart (tree.word name) e → HasMode stmts i name Output
      → BreaksModes stmts i x
  local_in_precondition : (x : Statement) (e : Tree) (name : List ℕ) → HasExpression x Precondition e → IsPart (tree.word name) e → HasMode stmts i name Local
      → BreaksModes stmts i x
  local_in_postcondition : (x : Statement) (e : Tree) (name : List ℕ) → HasExpression x Postcondition e → IsPart (tree.word name) e → HasMode stmts i name Local
      → BreaksModes stmts i x

-- a range of the statement has a least value above its greatest
pub record IsEmptyRange (stmts : List Placed) (i : ℕ) (x : Statement) : Type 0 where
  pub least : Bound
  pub greatest : Bound
  pub low : ℤ
  pub high : ℤ
  pub has : HasRange x least greatest
  pub is_low : IsEnd stmts i least low
  pub is_high : IsEnd stmts i greatest high
  pub above : high <ℤ low
