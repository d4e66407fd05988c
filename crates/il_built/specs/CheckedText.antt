-- The checked text of statements without a fault: the name of its TITLE, its profile, which is 2 exactly where a statement has a WRAP, and
-- for each PROC a procedure, whose places are its variables and then the OLD copies of the INOUT ones, and whose lines are its PRE, the
-- statements of its body and its ENDPROC, which has the condition of its POST.
use Rattle.std.specs.Prelude.{◌≡◌, ℕ, suc, Bool, true, false, List, [], ◌∷◌, ◌++◌, map, filter, length, Some, None, Result, Ok, Err, if◌then◌else◌, nat_eq, slice_get, slice_index_or}
use Rattle.std.specs.List.{flat_map, list_any, range_with_len}
use Rattle.il_core.specs.Checked.{NamedText, old_copy, is_copied}
use Rattle.il_core.specs.Expression.{Expression, truth}
use Rattle.il_core.specs.Procedure.{Procedure, Instruction}
use Rattle.il_core.specs.Procedure as line
use Rattle.il_core.specs.Statement.{Statement, Placed, title, wrap_type, procedure, variable, pre, post, assign, if_true, otherwise, end_if, loop, end_loop, exit, exit_when, label, goto, call, skip, assert, return, end_procedure}
use Rattle.il_core.specs.Text.{TextProcedure, Text, text_of}
use Rattle.il_core.specs.declared.line.Place.{Place}
use Rattle.il_core.specs.declared.refusal.TextEnd.{TextEnd}
use Rattle.il_core.specs.declared.refusal.TextEnd.TheVariants as end
use Rattle.il_core.specs.declared.statement.Link.{Link}
use Rattle.il_core.specs.declared.statement.Link.TheVariants.{NoLine, Plain, Jump}
use Rattle.il_core.specs.declared.statement.TypeUse.{TypeUse}
use Rattle.il_core.specs.declared.statement.TypeUse.TheVariants as use_
use Rattle.il_types.specs.Built.{place_of, assigned_place, built}
use Rattle.il_types.specs.Names.{Setting, counts_at}
use Rattle.il_types.specs.Rules.{Answers}
use Rattle.il_built.specs.Holding.{setting_at}

-- what statement i gives, where it stands in the procedure numbered owner; procedures are numbered from 1
abbrev pub of_procedure : {A : Type 0} → (ℕ → Statement → List A) → List Placed → ℕ → ℕ → List A
of_procedure give stmts owner i = elim (slice_get stmts i) [ None ↦ [] | Some x ↦ (if nat_eq (counts_at stmts i).procedures owner then give i x.says else []) ]

-- what the statements of a procedure give, in their order
abbrev pub given : {A : Type 0} → (ℕ → Statement → List A) → List Placed → ℕ → List A
given give stmts owner = flat_map (of_procedure give stmts owner) (range_with_len 0 (length stmts))

-- the place that a statement declares
abbrev pub declared_place : Setting → Statement → List Place
declared_place s (variable m name used) = place_of s (variable m name used) ∷ []
declared_place s _ = []

abbrev pub variables_of : List Placed → ℕ → List Place
variables_of stmts owner = given (λ i x. declared_place (setting_at stmts i) x) stmts owner

-- the variables, and then the OLD copies of the INOUT ones
abbrev pub with_copies : List Place → List Place
with_copies variables = variables ++ map old_copy (filter is_copied variables)

abbrev pub places_of : List Placed → ℕ → List Place
places_of stmts owner = with_copies (variables_of stmts owner)

-- the condition of a POST
abbrev pub posted : Setting → Statement → List Expression
posted s (post e) = built s e ∷ []
posted s _ = []

-- the first of some conditions
abbrev pub first_condition : List Expression → Expression
first_condition [] = truth true
first_condition (e ∷ es) = e

-- the condition of the POST of a procedure, which has one
abbrev pub post_of : List Placed → ℕ → Expression
post_of stmts owner = first_condition (given (λ i x. posted (setting_at stmts i) x) stmts owner)

abbrev pub target_of : Link → ℕ
target_of NoLine = 0
target_of (Plain own) = 0
target_of (Jump own target) = target

-- the line that a statement is, with the condition of the POST of its procedure and the line to which it may jump; a call
-- counts as a SKIP, since what it stands for is more than one line
abbrev pub instructions : Setting → Expression → ℕ → Statement → List Instruction
instructions s condition target (pre e) = line.pre (built s e) ∷ []
instructions s condition target (assign name e) = line.assign (assigned_place s name) (built s e) ∷ []
instructions s condition target (if_true e) = line.if_true (built s e) target ∷ []
instructions s condition target otherwise = line.otherwise target ∷ []
instructions s condition target end_if = line.end_if ∷ []
instructions s condition target loop = line.loop ∷ []
instructions s condition target end_loop = line.end_loop target ∷ []
instructions s condition target exit = line.exit target ∷ []
instructions s condition target (exit_when e) = line.exit_when (built s e) target ∷ []
instructions s condition target (label name) = line.label ∷ []
instructions s condition target (goto name) = line.goto target ∷ []
instructions s condition target (call _ _) = line.skip ∷ []
instructions s condition target skip = line.skip ∷ []
instructions s condition target (assert e) = line.assert (built s e) ∷ []
instructions s condition target return = line.return target ∷ []
instructions s condition target end_procedure = line.end_procedure condition ∷ []
instructions s condition target _ = []

abbrev pub target_at : List Link → ℕ → ℕ
target_at links i = target_of (slice_index_or links i NoLine)

abbrev pub lines_of : List Placed → List Link → ℕ → List Instruction
lines_of stmts links owner = given (λ i x. instructions (setting_at stmts i) (post_of stmts owner) (target_at links i) x) stmts owner

abbrev pub procedure_of : List Placed → List Link → ℕ → Procedure
procedure_of stmts links owner = record { places = places_of stmts owner; lines = lines_of stmts links owner }

-- the names of the procedures
abbrev pub named : Placed → List (List ℕ)
named x = elim x.says [ procedure name ↦ name ∷ [] | _ ↦ [] ]

abbrev pub procedure_names : List Placed → List (List ℕ)
procedure_names stmts = flat_map named stmts

-- the procedures that have these names, numbered from owner on
abbrev pub procedures_from : List Placed → List Link → ℕ → List (List ℕ) → List TextProcedure
procedures_from stmts links owner [] = []
procedures_from stmts links owner (name ∷ names) = record { name = name; body = procedure_of stmts links owner } ∷ procedures_from stmts links (suc owner) names

-- the name of the first statement, which is the TITLE
abbrev pub title_in : Statement → List ℕ
title_in (title name) = name
title_in _ = []

abbrev pub title_of : List Placed → List ℕ
title_of [] = []
title_of (x ∷ xs) = title_in x.says

-- a statement has a WRAP
abbrev pub use_wraps : TypeUse → Bool
use_wraps use_.Bool = false
use_wraps (use_.Named name) = false
use_wraps (use_.Range least greatest) = false
use_wraps (use_.Wrap least greatest) = true

abbrev pub wraps : Statement → Bool
wraps (wrap_type _ _ _) = true
wraps (variable _ _ used) = use_wraps used
wraps _ = false

abbrev pub profile_of : List Placed → ℕ
profile_of stmts = if list_any (λ x. wraps x.says) stmts then 2 else 1

abbrev pub checked_text : List Placed → List Link → Text
checked_text stmts links = record { title = title_of stmts; profile = profile_of stmts; procs = procedures_from stmts links 1 (procedure_names stmts) }

-- what the check of statements with their links answers: the checked text where no rule is broken, else the refusal of the first rule
abbrev pub CheckGives : List Placed → List Link → Result NamedText TextEnd → Type 0
CheckGives stmts links (Ok t) = Answers stmts None × (text_of t ≡ checked_text stmts links)
CheckGives stmts links (Err (end.Refused refusal)) = Answers stmts (Some refusal)
CheckGives stmts links (Err end.NoMemory) = Unit {0}
