-- A statement without the pointers of its expressions, so that two equal statements are one.
use Rattle.std.specs.Prelude.{ℕ, ℤ, List, map}
use Rattle.il_core.specs.Tree.{Tree, tree_of}
use Rattle.il_core.specs.declared.statement.Mode.{Mode}
use Rattle.il_core.specs.declared.statement.Bound.{Bound}
use Rattle.il_core.specs.declared.statement.TypeUse.{TypeUse}
use Rattle.il_core.specs.declared.statement.Form.{Form}
use Rattle.il_core.specs.declared.statement.Form.TheVariants as f
use Rattle.il_core.specs.declared.statement.Stmt.{Stmt}

pub data Statement : Type 0 where
  title : List ℕ → Statement
  constant_is : List ℕ → ℤ → Statement
  range_type : List ℕ → Bound → Bound → Statement
  wrap_type : List ℕ → Bound → Bound → Statement
  enum_type : List ℕ → List (List ℕ) → Statement
  procedure : List ℕ → Statement
  variable : Mode → List ℕ → TypeUse → Statement
  pre : Tree → Statement
  post : Tree → Statement
  assign : List ℕ → Tree → Statement
  if_true : Tree → Statement
  otherwise : Statement
  end_if : Statement
  loop : Statement
  end_loop : Statement
  exit : Statement
  exit_when : Tree → Statement
  label : List ℕ → Statement
  goto : List ℕ → Statement
  call : List ℕ → List Tree → Statement
  skip : Statement
  assert : Tree → Statement
  return : Statement
  end_procedure : Statement
  finish : Statement

-- what a form says
abbrev pub statement_of : Form → Statement
statement_of (f.Title name) = title name
statement_of (f.Const name value) = constant_is name value
statement_of (f.RangeType name least greatest) = range_type name least greatest
statement_of (f.WrapType name least greatest) = wrap_type name least greatest
statement_of (f.EnumType name values) = enum_type name values
statement_of (f.Proc name) = procedure name
statement_of (f.Variable mode name type) = variable mode name type
statement_of (f.Pre e) = pre (tree_of e)
statement_of (f.Post e) = post (tree_of e)
statement_of (f.Assign name e) = assign name (tree_of e)
statement_of (f.If e) = if_true (tree_of e)
statement_of f.Else = otherwise
statement_of f.EndIf = end_if
statement_of f.Loop = loop
statement_of f.EndLoop = end_loop
statement_of f.Exit = exit
statement_of (f.ExitWhen e) = exit_when (tree_of e)
statement_of (f.Label name) = label name
statement_of (f.Goto name) = goto name
statement_of (f.Call name arguments) = call name (map tree_of arguments)
statement_of f.Skip = skip
statement_of (f.Assert e) = assert (tree_of e)
statement_of f.Return = return
statement_of f.EndProc = end_procedure
statement_of f.Finish = finish

-- a statement with the place of its first byte in the text
pub record Placed : Type 0 where
  pub place : ℕ
  pub says : Statement

abbrev pub placed : Stmt → Placed
placed s = record { place = s.place; says = statement_of s.form }
