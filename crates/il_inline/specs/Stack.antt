-- A machine that runs a text with calls as it is written, by a stack of frames; each frame is a procedure, a line of it and the values of its
-- places. The last frame runs by the line machine. A call pushes a frame, whose precondition is asserted; at the end of the frame its
-- postcondition is asserted, and then its INOUT and OUT parameters are handed back one after the other.
use Rattle.std.specs.Prelude.{ℕ, suc, ◌+◌, ℤ, Bool, true, false, Option, Some, None, List, [], ◌∷◌, ◌++◌, map, slice_get, slice_set, if◌then◌else◌}
use Rattle.il_core.specs.Evaluation.{State, value_at, holds}
use Rattle.il_core.specs.Machine.{Step, given, kept, stepped}
use Rattle.il_core.specs.Procedure.{Instruction, pre, assign, if_true, otherwise, end_if, loop, end_loop, exit, exit_when, label, goto, skip, assert, return, end_procedure}
use Rattle.il_core.specs.Run.{inout_from}
use Rattle.il_core.specs.declared.line.Halt.{Halt}
use Rattle.il_core.specs.declared.line.Halt.TheVariants.{End, FailedAssert, DivZero, Range}
use Rattle.il_core.specs.declared.line.Next.{Next}
use Rattle.il_core.specs.declared.line.Next.TheVariants.{At, Halted}
use Rattle.il_core.specs.declared.line.Place.{Place}
use Rattle.il_called.specs.Called.{Passed, value, variable_of, WrittenLine, own, call, WrittenProcedure}
use Rattle.il_called.specs.Expansion.{variables_in, is_read, is_returned, left_behind, argument_value}

pub record Frame : Type 0 where
  pub procedure : ℕ
  pub line : ℕ
  pub values : State

-- the last frame, and those below it, the nearest first
pub record Stack : Type 0 where
  pub last : Frame
  pub below : List Frame

-- the next stack, or a halt on a line of the procedure of this number, with the frames as they are then
pub data Turn : Type 0 where
  runs : Stack → Turn
  halts : ℕ → Halt → Stack → Turn

-- what an assignment on a line gives a place: its value, or the halt of the assignment rule
pub data Gift : Type 0 where
  gives : ℤ → Gift
  faults : Halt → Gift

abbrev pub stored_in : ℕ → Option ℤ → Gift
stored_in line None = faults (Range line)
stored_in line (Some v) = gives v

abbrev pub assigned_in : ℕ → Place → Option ℤ → Gift
assigned_in line place None = faults (DivZero line)
assigned_in line place (Some v) = stored_in line (kept place v)

-- the values of a frame's places, or the halt of the first assignment that has one
pub data Entry : Type 0 where
  enters : State → Entry
  fails : Halt → Entry

-- a variable of the callee gets its argument's value by the assignment rule, over the values of the caller, or its least value
abbrev pub first_of : ℕ → List Place → State → Place → List Passed → Gift
first_of line places s v [] = gives v.least
first_of line places s v (a ∷ arguments) = if is_read v.mode then assigned_in line v (given v (argument_value places (λ p. p) a) s) else gives v.least

abbrev pub entered_after : Gift → (ℤ → Entry) → Entry
entered_after (faults h) next = fails h
entered_after (gives v) next = next v

-- the variables get their values in order, behind those that have theirs
abbrev pub variables_given : ℕ → List Place → State → List Place → List Passed → State → Entry
variables_given line places s [] arguments so_far = enters so_far
variables_given line places s (v ∷ vs) arguments so_far =
    entered_after (first_of line places s v arguments) (λ x. variables_given line places s vs (left_behind v.mode arguments) (so_far ++ x ∷ []))

-- each OLD copy of a callee's places has its variable's value
abbrev pub with_copies : List Place → State → State
with_copies places s = s ++ map (value_at s) (inout_from 0 places)

-- a call on a line of a frame
abbrev pub called_with : Stack → ℕ → WrittenProcedure → Entry → Turn
called_with stack callee q (fails h) = halts stack.last.procedure h stack
called_with stack callee q (enters s) = runs (record { last = record { procedure = callee; line = 0; values = with_copies q.places s }; below = stack.last ∷ stack.below })

-- the parameters are handed back one after the other: the values of the caller then, and a halt where one is out of range
pub record Handed : Type 0 where
  pub values : State
  pub fault : Option Halt

abbrev pub handed_on : (State → Handed) → State → ℕ → Gift → Handed
handed_on next s p (faults h) = record { values = s; fault = Some h }
handed_on next s p (gives v) = next (slice_set s p v)

-- a variable of the callee, which has number k there and this value, is handed back to an argument
abbrev pub back_one : ℕ → List Place → Place → ℤ → List Passed → (State → Handed) → State → Handed
back_one line places v x [] next s = next s
back_one line places v x (value e ∷ arguments) next s = next s
back_one line places v x (variable_of p ∷ arguments) next s =
    if is_returned v.mode then handed_on next s p (elim (slice_get places p) [ None ↦ faults (Range line) | Some place ↦ stored_in line (kept place x) ]) else next s

abbrev pub all_back : ℕ → List Place → State → ℕ → List Place → List Passed → State → Handed
all_back line places t k [] arguments s = record { values = s; fault = None }
all_back line places t k (v ∷ vs) arguments s = back_one line places v (value_at t k) arguments (all_back line places t (suc k) vs (left_behind v.mode arguments)) s

-- the last frame has ended: it goes, and the frame below stands behind its call, unless a parameter is out of range there
abbrev pub returned_to : Frame → Frame → List Frame → Handed → Turn
returned_to last caller below handed = elim handed.fault [
  | None ↦ runs (record { last = record caller { line = caller.line + 1; values = handed.values }; below = below })
  | Some h ↦ halts caller.procedure h (record { last = last; below = record caller { values = handed.values } ∷ below })
]

abbrev pub returned_from : List WrittenProcedure → Frame → Frame → List Frame → WrittenProcedure → WrittenLine → Turn
returned_from procs last caller below q (own i) = halts last.procedure End (record { last = last; below = caller ∷ below })
returned_from procs last caller below q (call c arguments) = elim (slice_get procs last.procedure) [
  | None ↦ halts last.procedure End (record { last = last; below = caller ∷ below })
  | Some it ↦ returned_to last caller below (all_back caller.line q.places last.values 0 (variables_in it.places) arguments caller.values)
]

-- the end of the last frame, whose postcondition holds; the first frame's end is that of the run
abbrev pub ended : List WrittenProcedure → Frame → List Frame → Turn
ended procs last [] = halts last.procedure End (record { last = last; below = [] })
ended procs last (caller ∷ below) = elim (slice_get procs caller.procedure) [
  | None ↦ halts last.procedure End (record { last = last; below = caller ∷ below })
  | Some q ↦ elim (slice_get q.lines caller.line) [
    | None ↦ halts last.procedure End (record { last = last; below = caller ∷ below })
    | Some line ↦ returned_from procs last caller below q line
  ]
]

-- a step of the line machine in the last frame
abbrev pub moved_to : Stack → Next → State → Turn
moved_to stack (At line) s = runs (record { last = record stack.last { line = line; values = s }; below = stack.below })
moved_to stack (Halted h) s = halts stack.last.procedure h stack

abbrev pub by_step : Stack → Step → Turn
by_step stack s = moved_to stack s.next s.state

-- a condition of a frame that was pushed: a false one is a failed assertion
abbrev pub asserted : Stack → Option Bool → Turn → Turn
asserted stack None met = halts stack.last.procedure (DivZero stack.last.line) stack
asserted stack (Some true) met = met
asserted stack (Some false) met = halts stack.last.procedure (FailedAssert stack.last.line) stack

abbrev pub pushed_turn : List WrittenProcedure → List Place → Stack → Instruction → Turn
pushed_turn procs places stack (pre e) =
    asserted stack (holds e stack.last.values) (runs (record { last = record stack.last { line = stack.last.line + 1 }; below = stack.below }))
pushed_turn procs places stack (end_procedure e) = asserted stack (holds e stack.last.values) (ended procs stack.last stack.below)
pushed_turn procs places stack (assign p e) = by_step stack (stepped places stack.last.line stack.last.values (assign p e))
pushed_turn procs places stack (if_true e q) = by_step stack (stepped places stack.last.line stack.last.values (if_true e q))
pushed_turn procs places stack (otherwise q) = by_step stack (stepped places stack.last.line stack.last.values (otherwise q))
pushed_turn procs places stack end_if = by_step stack (stepped places stack.last.line stack.last.values end_if)
pushed_turn procs places stack loop = by_step stack (stepped places stack.last.line stack.last.values loop)
pushed_turn procs places stack (end_loop q) = by_step stack (stepped places stack.last.line stack.last.values (end_loop q))
pushed_turn procs places stack (exit q) = by_step stack (stepped places stack.last.line stack.last.values (exit q))
pushed_turn procs places stack (exit_when e q) = by_step stack (stepped places stack.last.line stack.last.values (exit_when e q))
pushed_turn procs places stack label = by_step stack (stepped places stack.last.line stack.last.values label)
pushed_turn procs places stack (goto q) = by_step stack (stepped places stack.last.line stack.last.values (goto q))
pushed_turn procs places stack skip = by_step stack (stepped places stack.last.line stack.last.values skip)
pushed_turn procs places stack (assert e) = by_step stack (stepped places stack.last.line stack.last.values (assert e))
pushed_turn procs places stack (return q) = by_step stack (stepped places stack.last.line stack.last.values (return q))

-- the first frame runs by the line machine alone
abbrev pub own_turn : List WrittenProcedure → List Place → Stack → List Frame → Instruction → Turn
own_turn procs places stack [] i = by_step stack (stepped places stack.last.line stack.last.values i)
own_turn procs places stack (caller ∷ below) i = pushed_turn procs places stack i

abbrev pub line_turn : List WrittenProcedure → WrittenProcedure → Stack → WrittenLine → Turn
line_turn procs p stack (own i) = own_turn procs p.places stack stack.below i
line_turn procs p stack (call c arguments) = elim (slice_get procs c) [
  | None ↦ halts stack.last.procedure End stack
  | Some q ↦ called_with stack c q (variables_given stack.last.line p.places stack.last.values (variables_in q.places) arguments [])
]

-- one step of the machine; no run of a checked text comes to a procedure or a line that is not there
unfoldable pub turn : List WrittenProcedure → Stack → Turn
turn procs stack = elim (slice_get procs stack.last.procedure) [
  | None ↦ halts stack.last.procedure End stack
  | Some p ↦ elim (slice_get p.lines stack.last.line) [ None ↦ halts stack.last.procedure End stack | Some line ↦ line_turn procs p stack line ]
]
