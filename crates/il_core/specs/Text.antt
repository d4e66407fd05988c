-- A checked text without the pointers of its expressions, so that two equal texts are one.
use Rattle.std.specs.Prelude.{ℕ, List, map}
use Rattle.il_core.specs.Procedure.{Procedure}
use Rattle.il_core.specs.Checked.{NamedProcedure, NamedText, procedure_of}

-- a procedure with its name
pub record TextProcedure : Type 0 where
  pub name : List ℕ
  pub body : Procedure

-- a text: its title, its profile and its procedures in order
pub record Text : Type 0 where
  pub title : List ℕ
  pub profile : ℕ
  pub procs : List TextProcedure

-- what the types of the code hold
abbrev pub text_procedure : NamedProcedure → TextProcedure
text_procedure p = record { name = p.name; body = procedure_of p }

abbrev pub text_of : NamedText → Text
text_of t = record { title = t.title; profile = t.profile; procs = map text_procedure t.procs }
