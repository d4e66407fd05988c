-- A text with calls without the pointers of its expressions, so that two equal texts are one.
use Rattle.std.specs.Prelude.{ℕ, List, map}
use Rattle.il_core.specs.Expression.{Expression, expression_of}
use Rattle.il_core.specs.Procedure.{Instruction, instruction_of}
use Rattle.il_core.specs.declared.line.Place.{Place}
use Rattle.il_called.specs.declared.called.Argument.{Argument}
use Rattle.il_called.specs.declared.called.Argument.TheVariants as a
use Rattle.il_called.specs.declared.called.CalledLine.{CalledLine}
use Rattle.il_called.specs.declared.called.CalledLine.TheVariants as l
use Rattle.il_called.specs.declared.called.CalledProc.{CalledProc}

-- what a call gives a parameter: a value, or a variable to which it is handed back
pub data Passed : Type 0 where
  value : Expression → Passed
  variable_of : ℕ → Passed

abbrev pub passed_of : Argument → Passed
passed_of (a.Value e) = value (expression_of e)
passed_of (a.Variable p) = variable_of p

-- a line of its own, or a call of the procedure of a number
pub data WrittenLine : Type 0 where
  own : Instruction → WrittenLine
  call : ℕ → List Passed → WrittenLine

abbrev pub written_of : CalledLine → WrittenLine
written_of (l.Own line) = own (instruction_of line)
written_of (l.Call callee arguments) = call callee (map passed_of arguments)

pub record WrittenProcedure : Type 0 where
  pub name : List ℕ
  pub places : List Place
  pub lines : List WrittenLine

abbrev pub procedure_of : CalledProc → WrittenProcedure
procedure_of p = record { name = p.name; places = p.places; lines = map written_of p.lines }

pub record WrittenText : Type 0 where
  pub title : List ℕ
  pub profile : ℕ
  pub procs : List WrittenProcedure

-- a text as the types of the code hold it
pub record HeldText : Type 0 where
  pub title : List ℕ
  pub profile : ℕ
  pub procs : List CalledProc

abbrev pub called_of : HeldText → WrittenText
called_of t = record { title = t.title; profile = t.profile; procs = map procedure_of t.procs }
