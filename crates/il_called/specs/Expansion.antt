-- Calls expanded in place. A call becomes assignments that give the callee's variables their first values, and its OLD copies those of their
-- variables; the callee's own expanded lines, in which its precondition and its postcondition are asserted and RETURN goes to the latter; and
-- assignments that hand the INOUT and OUT parameters back. The callee's places become LOCAL places of the caller, between its variables and its
-- OLD copies, under names that tell which call brought them.
use Rattle.std.specs.Prelude.{ℕ, zero, suc, ◌+◌, ◌-◌, ◌<◌, nat_lt, Bool, true, false, ◌&&◌, Option, None, Some, List, [], ◌∷◌, ◌++◌, length, map, filter, take, drop, slice_get, count_by, sum_by, codes, decimal, if◌then◌else◌}
use Rattle.il_core.specs.Expression.{Expression, number, variable, flag, truth, minus, opposite, two}
use Rattle.il_core.specs.Procedure.{Procedure, Instruction, pre, assign, if_true, otherwise, end_if, loop, end_loop, exit, exit_when, label, goto, skip, assert, return, end_procedure}
use Rattle.il_core.specs.Run.{is_inout, is_variable, inout_from}
use Rattle.il_core.specs.declared.line.Place.{Place}
use Rattle.il_core.specs.declared.statement.Mode.{Mode}
use Rattle.il_core.specs.declared.statement.Mode.TheVariants.{Input, InOut, Output, Local}
use Rattle.il_called.specs.Called.{Passed, value, variable_of, WrittenLine, own, call, WrittenProcedure}
use Rattle.il_called.specs.declared.called.Origin.{Origin}
use Rattle.il_called.specs.declared.called.CallSpan.{CallSpan}

-- a procedure whose calls are expanded: its places and lines, the written line from which each line comes, and the lines of each of its own calls
pub record Expansion : Type 0 where
  pub places : List Place
  pub lines : List Instruction
  pub origins : List Origin
  pub spans : List CallSpan

abbrev pub procedure_in : Expansion → Procedure
procedure_in e = record { places = e.places; lines = e.lines }

-- a procedure that may be called: as it is written, and expanded
pub record Callee : Type 0 where
  pub written : WrittenProcedure
  pub expanded : Expansion

-- an expression whose places have other numbers
abbrev pub renumbered : (ℕ → ℕ) → Expression → Expression
renumbered place (number n) = number n
renumbered place (variable p) = variable (place p)
renumbered place (flag p) = flag (place p)
renumbered place (truth b) = truth b
renumbered place (minus e) = minus (renumbered place e)
renumbered place (opposite e) = opposite (renumbered place e)
renumbered place (two o a b) = two o (renumbered place a) (renumbered place b)

-- an instruction whose places and lines have other numbers
abbrev pub moved : (ℕ → ℕ) → (ℕ → ℕ) → Instruction → Instruction
moved place line (pre e) = pre (renumbered place e)
moved place line (assign p e) = assign (place p) (renumbered place e)
moved place line (if_true e q) = if_true (renumbered place e) (line q)
moved place line (otherwise q) = otherwise (line q)
moved place line end_if = end_if
moved place line loop = loop
moved place line (end_loop q) = end_loop (line q)
moved place line (exit q) = exit (line q)
moved place line (exit_when e q) = exit_when (renumbered place e) (line q)
moved place line label = label
moved place line (goto q) = goto (line q)
moved place line skip = skip
moved place line (assert e) = assert (renumbered place e)
moved place line (return q) = return (line q)
moved place line (end_procedure e) = end_procedure (renumbered place e)

-- the same in a procedure that is called: its precondition and its postcondition are asserted, and RETURN goes to the latter
abbrev pub inlined : (ℕ → ℕ) → (ℕ → ℕ) → Instruction → Instruction
inlined place line (pre e) = assert (renumbered place e)
inlined place line (assign p e) = assign (place p) (renumbered place e)
inlined place line (if_true e q) = if_true (renumbered place e) (line q)
inlined place line (otherwise q) = otherwise (line q)
inlined place line end_if = end_if
inlined place line loop = loop
inlined place line (end_loop q) = end_loop (line q)
inlined place line (exit q) = exit (line q)
inlined place line (exit_when e q) = exit_when (renumbered place e) (line q)
inlined place line label = label
inlined place line (goto q) = goto (line q)
inlined place line skip = skip
inlined place line (assert e) = assert (renumbered place e)
inlined place line (return q) = goto (line q)
inlined place line (end_procedure e) = assert (renumbered place e)

abbrev pub variables_in : List Place → List Place
variables_in places = filter is_variable places

-- a parameter is a variable of mode IN, INOUT or OUT; the first two are read at the call, the last two are handed back
abbrev pub is_parameter : Mode → Bool
is_parameter Input = true
is_parameter InOut = true
is_parameter Output = true
is_parameter Local = false

abbrev pub is_read : Mode → Bool
is_read Input = true
is_read InOut = true
is_read Output = false
is_read Local = false

abbrev pub is_returned : Mode → Bool
is_returned Input = false
is_returned InOut = true
is_returned Output = true
is_returned Local = false

-- the value of a place, read under a number
abbrev pub read_as : Place → ℕ → Expression
read_as place p = if place.flag then flag p else variable p

abbrev pub least_of : Place → Expression
least_of place = if place.flag then truth false else number place.least

-- the arguments that are left behind a variable
abbrev pub left_behind : Mode → List Passed → List Passed
left_behind mode arguments = if is_parameter mode then drop 1 arguments else arguments

-- the value of an argument, over the caller's places, which have other numbers
abbrev pub argument_value : List Place → (ℕ → ℕ) → Passed → Expression
argument_value places place (value e) = renumbered place e
argument_value places place (variable_of p) = elim (slice_get places p) [ None ↦ variable (place p) | Some there ↦ read_as there (place p) ]

-- the first value of a variable of the callee: its argument's, or the least of its range
abbrev pub first_value : List Place → (ℕ → ℕ) → Place → List Passed → Expression
first_value places place v [] = least_of v
first_value places place v (a ∷ arguments) = if is_read v.mode then argument_value places place a else least_of v

-- each variable of the callee gets its first value; the first of them has number k
abbrev pub entered : List Place → (ℕ → ℕ) → ℕ → List Place → List Passed → List Instruction
entered places place k [] arguments = []
entered places place k (v ∷ vs) arguments = assign k (first_value places place v arguments) ∷ entered places place (suc k) vs (left_behind v.mode arguments)

-- the place of a number, read under another
abbrev pub read_at : List Place → ℕ → ℕ → Expression
read_at places n p = elim (slice_get places n) [ None ↦ variable p | Some place ↦ read_as place p ]

-- the OLD copies of these variables of the callee get their values; the callee's places are numbered from base on, and the first copy has number k
abbrev pub copied : List Place → ℕ → ℕ → List ℕ → List Instruction
copied places base k [] = []
copied places base k (n ∷ ns) = assign k (read_at places n (base + n)) ∷ copied places base (suc k) ns

-- what is handed back to an argument that is a variable
abbrev pub back_to : (ℕ → ℕ) → ℕ → Place → List Passed → List Instruction
back_to place k v [] = []
back_to place k v (value e ∷ arguments) = []
back_to place k v (variable_of p ∷ arguments) = if is_returned v.mode then assign (place p) (read_as v k) ∷ [] else []

-- the INOUT and OUT parameters are handed back; the first variable of the callee has number k
abbrev pub handed_back : (ℕ → ℕ) → ℕ → List Place → List Passed → List Instruction
handed_back place k [] arguments = []
handed_back place k (v ∷ vs) arguments = back_to place k v arguments ++ handed_back place (suc k) vs (left_behind v.mode arguments)

-- the lines of a call: before the callee's own lines, these, which begin at line middle, and behind them
abbrev pub entry_of : List Place → (ℕ → ℕ) → ℕ → Callee → List Passed → List Instruction
entry_of places place base callee arguments =
    let inouts = inout_from 0 callee.written.places in
    entered places place base (variables_in callee.written.places) arguments
    ++ copied callee.written.places base (base + (length callee.expanded.places - length inouts)) inouts

abbrev pub body_of : ℕ → ℕ → Callee → List Instruction
body_of base middle callee = map (inlined (λ p. base + p) (λ line. middle + line)) callee.expanded.lines

abbrev pub exit_of : (ℕ → ℕ) → ℕ → Callee → List Passed → List Instruction
exit_of place base callee arguments = handed_back place base (variables_in callee.written.places) arguments

-- how many lines stand before the callee's own
abbrev pub entry_width : Callee → ℕ
entry_width callee = length (variables_in callee.written.places) + length (inout_from 0 callee.written.places)

abbrev pub call_lines : List Place → (ℕ → ℕ) → ℕ → ℕ → Callee → List Passed → List Instruction
call_lines places place base first callee arguments = entry_of places place base callee arguments
    ++ body_of base (first + entry_width callee) callee ++ exit_of place base callee arguments

-- how many lines a line becomes; a call of a procedure that is not there stays one
abbrev pub call_width : Callee → ℕ
call_width callee = entry_width callee + length callee.expanded.lines + count_by (λ v. is_returned v.mode) (variables_in callee.written.places)

abbrev pub width_of : List Callee → WrittenLine → ℕ
width_of callees (own i) = 1
width_of callees (call n arguments) = elim (slice_get callees n) [ None ↦ 1 | Some callee ↦ call_width callee ]

-- the line at which a written line begins
abbrev pub start_of : List Callee → List WrittenLine → ℕ → ℕ
start_of callees lines n = sum_by (width_of callees) (take n lines)

-- how many places a line brings
abbrev pub brings : List Callee → WrittenLine → ℕ
brings callees (own i) = 0
brings callees (call n arguments) = elim (slice_get callees n) [ None ↦ 0 | Some callee ↦ length callee.expanded.places ]

-- the first of the places that a written line brings
abbrev pub base_of : List Callee → WrittenProcedure → ℕ → ℕ
base_of callees p n = length (variables_in p.places) + sum_by (brings callees) (take n p.lines)

-- a variable keeps its number, and an OLD copy stands behind the places that are brought
abbrev pub own_place : List Callee → WrittenProcedure → ℕ → ℕ
own_place callees p k = if nat_lt k (length (variables_in p.places)) then k else k + sum_by (brings callees) p.lines

-- what a list becomes member by member, each with its number, from k on
abbrev pub each_from : {X Y : Type 0} → (ℕ → X → List Y) → ℕ → List X → List Y
each_from f k [] = []
each_from f k (x ∷ xs) = f k x ++ each_from f (suc k) xs

-- the lines that a written line becomes
abbrev pub lines_of : List Callee → WrittenProcedure → ℕ → WrittenLine → List Instruction
lines_of callees p n (own i) = moved (own_place callees p) (start_of callees p.lines) i ∷ []
lines_of callees p n (call c arguments) = elim (slice_get callees c) [
  | None ↦ []
  | Some callee ↦ call_lines p.places (own_place callees p) (base_of callees p n) (start_of callees p.lines n) callee arguments
]

abbrev pub origin_at : ℕ → ℕ → Origin
origin_at procedure n = record { procedure = procedure; line = n }

abbrev pub repeated : Origin → ℕ → List Origin
repeated o zero = []
repeated o (suc n) = o ∷ repeated o n

-- the callee's own lines keep their origins, all others come from the call
abbrev pub origins_of : List Callee → ℕ → ℕ → WrittenLine → List Origin
origins_of callees procedure n (own i) = origin_at procedure n ∷ []
origins_of callees procedure n (call c arguments) = elim (slice_get callees c) [
  | None ↦ []
  | Some callee ↦ repeated (origin_at procedure n) (entry_width callee) ++ callee.expanded.origins
      ++ repeated (origin_at procedure n) (count_by (λ v. is_returned v.mode) (variables_in callee.written.places))
]

abbrev pub spans_of : List Callee → WrittenProcedure → ℕ → WrittenLine → List CallSpan
spans_of callees p n (own i) = []
spans_of callees p n (call c arguments) = elim (slice_get callees c) [
  | None ↦ []
  | Some callee ↦ record { first = start_of callees p.lines n; last = start_of callees p.lines (n + 1) - 1; callee = c } ∷ []
]

abbrev pub is_call : WrittenLine → Bool
is_call (own i) = false
is_call (call n arguments) = true

-- the number of a call among those of its procedure, counted from 1
abbrev pub call_number : List WrittenLine → ℕ → ℕ
call_number lines n = count_by is_call (take n lines) + 1

-- what a place is called that a call brought
abbrev pub brought_name : ℕ → Place → List ℕ
brought_name k place = (if place.old then codes "o" else codes "c") ++ decimal k ++ codes "_" ++ place.name

abbrev pub brought : ℕ → Place → Place
brought k place = record place { name = brought_name k place; mode = Local; old = false }

abbrev pub places_of : List Callee → WrittenProcedure → ℕ → WrittenLine → List Place
places_of callees p n (own i) = []
places_of callees p n (call c arguments) = elim (slice_get callees c) [ None ↦ [] | Some callee ↦ map (brought (call_number p.lines n)) callee.expanded.places ]

-- the expansion of the procedure of a number, over those before it
abbrev pub expansion_of : List Callee → ℕ → WrittenProcedure → Expansion
expansion_of callees procedure p = record {
  places = variables_in p.places ++ each_from (places_of callees p) 0 p.lines ++ drop (length (variables_in p.places)) p.places;
  lines = each_from (lines_of callees p) 0 p.lines;
  origins = each_from (origins_of callees procedure) 0 p.lines;
  spans = each_from (spans_of callees p) 0 p.lines;
}

-- procedures with their expansions, behind those that stand before them
abbrev pub callees_behind : List Callee → List WrittenProcedure → List Callee
callees_behind before [] = before
callees_behind before (p ∷ ps) = callees_behind (before ++ record { written = p; expanded = expansion_of before (length before) p } ∷ []) ps

-- the procedures of a text with their expansions
unfoldable pub callees_of : List WrittenProcedure → List Callee
callees_of procs = callees_behind [] procs
