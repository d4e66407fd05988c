-- The order of a text: one TITLE, constants and types, then procedures, each with its variables, its precondition, its
-- postcondition and its body up to ENDPROC, and then FINISH, with nothing after it.
use Rattle.std.specs.Prelude.{◌≡◌, ◌≢◌, ℕ, List, [], ◌∷◌, ◌++◌, Option, Some, None}
use Rattle.std.specs.Option.{option_and_then}
use Rattle.il_core.specs.Statement.{Statement, Placed, title, constant_is, range_type, wrap_type, enum_type, procedure, variable, pre, post, assign, if_true, otherwise, end_if, loop, end_loop, exit, exit_when, label, goto, call, skip, assert, return, end_procedure, finish}
use Rattle.il_syntax.specs.declared.order.Part.{Part}
use Rattle.il_syntax.specs.declared.order.Part.TheVariants as part
use Rattle.il_syntax.specs.declared.order.Stage.{Stage}
use Rattle.il_syntax.specs.declared.order.Stage.TheVariants as at

-- the part of a text that a statement is
abbrev pub part_of : Statement → Part
part_of (title _) = part.Title
part_of (constant_is _ _) = part.Declaration
part_of (range_type _ _ _) = part.Declaration
part_of (wrap_type _ _ _) = part.Declaration
part_of (enum_type _ _) = part.Declaration
part_of (procedure _) = part.Opening
part_of (variable _ _ _) = part.Variable
part_of (pre _) = part.Precondition
part_of (post _) = part.Postcondition
part_of (assign _ _) = part.Body
part_of (if_true _) = part.Body
part_of otherwise = part.Body
part_of end_if = part.Body
part_of loop = part.Body
part_of end_loop = part.Body
part_of exit = part.Body
part_of (exit_when _) = part.Body
part_of (label _) = part.Body
part_of (goto _) = part.Body
part_of (call _ _) = part.Body
part_of skip = part.Body
part_of (assert _) = part.Body
part_of return = part.Body
part_of end_procedure = part.Closing
part_of finish = part.Finish

-- the stage behind a part that may stand at a stage
abbrev pub next : Stage → Part → Option Stage
next at.Start part.Title = Some at.Declarations
next at.Declarations part.Declaration = Some at.Declarations
next at.Declarations part.Opening = Some at.Variables
next at.Variables part.Variable = Some at.Variables
next at.Variables part.Precondition = Some at.Postcondition
next at.Postcondition part.Postcondition = Some at.Body
next at.Body part.Body = Some at.Body
next at.Body part.Closing = Some at.Procedures
next at.Procedures part.Opening = Some at.Variables
next at.Procedures part.Finish = Some at.Done
next _ _ = None

-- the stage behind statements that may stand one behind the other from a stage on
abbrev pub run : Stage → List Placed → Option Stage
run stage [] = Some stage
run stage (s ∷ ss) = option_and_then (λ after. run after ss) (next stage (part_of s.says))

abbrev pub IsInOrder : List Placed → Type 0
IsInOrder stmts = run at.Start stmts ≡ Some at.Done

-- at a stage, with these statements to come, the order breaks at a place: at the first of them, or at the end of the text
abbrev pub StopsAt : ℕ → Stage → List Placed → ℕ → Type 0
StopsAt text_len stage [] place = (stage ≢ at.Done) × (place ≡ text_len)
StopsAt text_len stage (s ∷ _) place = (next stage (part_of s.says) ≡ None) × (place ≡ s.place)

-- the first place where the order breaks
pub record BreaksAt (text_len : ℕ) (stmts : List Placed) (place : ℕ) : Type 0 where
  pub front : List Placed
  pub rest : List Placed
  pub parts : stmts ≡ front ++ rest
  pub stage : Stage
  pub before : run at.Start front ≡ Some stage
  pub stops : StopsAt text_len stage rest place
