-- The text with calls that statements and their links stand for: its procedures have the places and the lines of the checked text, but a CALL
-- is a call of the procedure that it names, with what it gives to each parameter.
use Rattle.std.specs.Prelude.{ℕ, suc, ◌+◌, ◌-◌, List, [], ◌∷◌, length, map, take, Option, Some, None, unwrap_or, slice_get, count_by}
use Rattle.std.specs.List.{flat_map, range_with_len}
use Rattle.std.specs.Option.{option_and_then}
use Rattle.il_core.specs.Statement.{Statement, Placed, call}
use Rattle.il_core.specs.Tree.{Tree}
use Rattle.il_core.specs.declared.statement.Link.{Link}
use Rattle.il_types.specs.Built.{built, assigned_place}
use Rattle.il_types.specs.Names.{Setting, counts_at}
use Rattle.il_built.specs.CheckedText.{of_procedure, instructions, places_of, post_of, procedure_names, profile_of, target_at, title_of}
use Rattle.il_built.specs.Holding.{setting_at}
use Rattle.il_called.specs.Called.{Passed, value, variable_of, WrittenLine, own, WrittenProcedure, WrittenText}
use Rattle.il_called.specs.Called as called
use Rattle.il_called.specs.Expansion.{Callee, callees_of, is_call}
use Rattle.call_rules.specs.Callee.{Pairing, procedure_named, parameters_named, pairings}
use Rattle.call_rules.specs.Calls.{back_to}

-- the variable that an INOUT or OUT parameter is given, or the value of the argument
abbrev pub passed : Setting → Pairing → Passed
passed s g = elim (back_to g) [ None ↦ value (built s g.argument) | Some name ↦ variable_of (assigned_place s name) ]

-- procedures are numbered from 1 here, and from 0 in the text; a name that is no procedure's stands as a call of the procedure itself,
-- which brings nothing, as such a call does
abbrev pub call_line : Setting → List ℕ → List Tree → WrittenLine
call_line s name arguments = called.call (unwrap_or (procedure_named s name) s.owner - 1) (map (passed s) (pairings (parameters_named s name) arguments))

-- the line that statement i is
abbrev pub written_lines : List Placed → List Link → ℕ → ℕ → Statement → List WrittenLine
written_lines stmts links owner i (call name arguments) = call_line (setting_at stmts i) name arguments ∷ []
written_lines stmts links owner i x = map own (instructions (setting_at stmts i) (post_of stmts owner) (target_at links i) x)

-- the lines that the first statements of a text give a procedure, so many of them
abbrev pub lines_before : List Placed → List Link → ℕ → ℕ → List WrittenLine
lines_before stmts links owner count = flat_map (of_procedure (written_lines stmts links owner) stmts owner) (range_with_len 0 count)

abbrev pub written_procedure : List Placed → List Link → ℕ → List ℕ → WrittenProcedure
written_procedure stmts links owner name = record {
  name = name;
  places = places_of stmts owner;
  lines = lines_before stmts links owner (length stmts);
}

-- the procedures that have these names, numbered from owner on
abbrev pub procedures_from : List Placed → List Link → ℕ → List (List ℕ) → List WrittenProcedure
procedures_from stmts links owner [] = []
procedures_from stmts links owner (name ∷ names) = written_procedure stmts links owner name ∷ procedures_from stmts links (suc owner) names

abbrev pub written_procedures : List Placed → List Link → List WrittenProcedure
written_procedures stmts links = procedures_from stmts links 1 (procedure_names stmts)

abbrev pub called_text : List Placed → List Link → WrittenText
called_text stmts links = record { title = title_of stmts; profile = profile_of stmts; procs = written_procedures stmts links }

-- the procedures before the one of a number, with their expansions
abbrev pub callees_before : List Placed → List Link → ℕ → List Callee
callees_before stmts links owner = callees_of (take (owner - 1) (written_procedures stmts links))

-- the procedure in which statement i stands
abbrev pub owner_at : List Placed → ℕ → ℕ
owner_at stmts i = (counts_at stmts i).procedures

-- the earlier procedure that a CALL at statement i names, none where it names its own or none
abbrev pub callee_at : List Placed → List Link → ℕ → List ℕ → Option Callee
callee_at stmts links i name = option_and_then (λ c. slice_get (callees_before stmts links (owner_at stmts i)) (c - 1)) (procedure_named (setting_at stmts i) name)

-- the number of a CALL at statement i among those of its procedure, counted from 1
abbrev pub call_number_at : List Placed → List Link → ℕ → ℕ
call_number_at stmts links i = count_by is_call (lines_before stmts links (owner_at stmts i) i) + 1
