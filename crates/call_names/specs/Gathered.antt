-- What the statements of a text give to the outlines of its procedures.
use Rattle.std.specs.Prelude.{◌≡◌, ℕ, ◌+◌, ◌-◌, List, [], ◌∷◌, length, map, find, Option, Some, None, unwrap_or, slice_get, nat_eq, if◌then◌else◌}
use Rattle.il_core.specs.Run.{is_inout}
use Rattle.il_core.specs.Statement.{Statement, Placed, procedure, variable, call}
use Rattle.il_types.specs.Names.{Setting, front_of}
use Rattle.il_types.specs.declared.names.Redeclaration.{Redeclaration}
use Rattle.il_built.specs.CheckedText.{given}
use Rattle.il_built.specs.Holding.{setting_at}
use Rattle.il_called.specs.Called.{WrittenProcedure}
use Rattle.call_names.specs.Search.{is_among, names_under, places_at}
use Rattle.call_rules.specs.Callee.{procedure_named}
use Rattle.call_names.specs.declared.outline.Outline.{Outline}
use Rattle.call_names.specs.declared.outline.Variable.{Variable}

-- the variable that a statement declares
abbrev pub declared_variable : Statement → List Variable
declared_variable (variable m name used) = record { name = name; copied = is_inout m } ∷ []
declared_variable _ = []

-- the procedure that a CALL names, counted from 0; the CALL's own where it names none
abbrev pub callee_named : Setting → List ℕ → ℕ
callee_named s name = unwrap_or (procedure_named s name) s.owner - 1

-- the procedure that a statement calls
abbrev pub called_in : Setting → Statement → List ℕ
called_in s (call name arguments) = callee_named s name ∷ []
called_in s _ = []

-- the variables and the calls of the procedure of a number, counted from 1; number 0 has those that stand before all procedures
abbrev pub variables_to : List Placed → ℕ → List Variable
variables_to stmts owner = given (λ i x. declared_variable x) stmts owner

abbrev pub calls_to : List Placed → ℕ → List ℕ
calls_to stmts owner = given (λ i x. called_in (setting_at stmts i) x) stmts owner

pub record AreGathered (stmts : List Placed) (outlines : List Outline) : Type 0 where
  pub size : length outlines ≡ (front_of stmts).counts.procedures + 1
  pub variables : (k : ℕ) → unwrap_or (slice_get (map (λ (o : Outline). o.variables) outlines) k) [] ≡ variables_to stmts k
  pub calls : (k : ℕ) → unwrap_or (slice_get (map (λ (o : Outline). o.calls) outlines) k) [] ≡ calls_to stmts k

-- the names of the variables of the procedure of a number
abbrev pub own_names : List Outline → ℕ → List (List ℕ)
own_names outlines owner = map (λ (v : Variable). v.name) (unwrap_or (slice_get (map (λ (o : Outline). o.variables) outlines) owner) [])

-- the first of the names sought among the new names of a call of a number, which calls a procedure that is counted from 1, if any
abbrev pub clash_found : List WrittenProcedure → List (List ℕ) → ℕ → Option ℕ → Option (List ℕ)
clash_found procs sought k None = None
clash_found procs sought k (Some c) = find (is_among sought) (names_under [] k (places_at procs (c - 1)))

-- the first of the new names that a statement brings, behind so many CALLs of its procedure, that is a variable of the procedure
abbrev pub clash_in : List WrittenProcedure → List Outline → Setting → ℕ → Statement → Option (List ℕ)
clash_in procs outlines s calls (call name arguments) = if nat_eq s.owner 0 then None else clash_found procs (own_names outlines s.owner) (calls + 1) (procedure_named s name)
clash_in procs outlines s calls _ = None

-- the CALLs of the latest procedure behind a statement
abbrev pub calls_behind : ℕ → Statement → ℕ
calls_behind calls (procedure name) = 0
calls_behind calls (call name arguments) = calls + 1
calls_behind calls _ = calls

-- the name that a statement of a number declares although it is taken, where it is the first such statement
abbrev pub redeclared_at : Option Redeclaration → ℕ → Option (List ℕ)
redeclared_at None at = None
redeclared_at (Some d) at = if nat_eq d.at at then Some d.name else None
