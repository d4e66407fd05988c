-- An expanded procedure runs as the stack machine runs the text as it is written.
use Rattle.std.specs.Prelude.{◌≡◌, ◌⊎◌, ℕ, zero, suc, ◌+◌, ◌-◌, nat_lt, if◌then◌else◌, List, [], ◌∷◌, length, slice_get, Some}
use Rattle.il_core.specs.Evaluation.{State}
use Rattle.il_core.specs.Run.{Steps, HaltsAfter, IsInitial, inout_from}
use Rattle.il_core.specs.declared.line.Halt.{Halt}
use Rattle.il_core.specs.declared.line.Halt.TheVariants.{End, Outside, FailedAssert, FailedPost, DivZero, Range}
use Rattle.il_core.specs.declared.line.Place.{Place}
use Rattle.il_called.specs.Called.{Passed, call, WrittenProcedure, WrittenText}
use Rattle.il_called.specs.CalledText.{IsCalledText}
use Rattle.il_called.specs.Expansion.{Expansion, procedure_in, variables_in, origin_at, callees_of}
use Rattle.il_called.specs.declared.called.Origin.{Origin}
use Rattle.il_inline.specs.Stack.{Frame, Stack, turn, runs, halts}
use Rattle.il_runs.specs.Moved.{HasValues}

-- so many steps of the stack machine, none of which halts, lead from a stack to a stack
abbrev pub Turns : List WrittenProcedure → ℕ → Stack → Stack → Type 0
Turns procs zero from to = from ≡ to
Turns procs (suc n) from to = (between : Stack) × (turn procs from ≡ runs between) × Turns procs n between to

-- so many steps and one more, which halts on a line of the procedure of this number
pub record TurnsHalt (procs : List WrittenProcedure) (n : ℕ) (from : Stack) (procedure : ℕ) (halt : Halt) (to : Stack) : Type 0 where
  pub last : Stack
  pub turns : Turns procs n from last
  pub halts : turn procs last ≡ halts procedure halt to

abbrev pub alone : ℕ → State → Stack
alone number s = record { last = record { procedure = number; line = 0; values = s }; below = [] }

-- the first frame, given the last one and those below it, the nearest first
abbrev pub first_frame : Frame → List Frame → Frame
first_frame last [] = last
first_frame last (caller ∷ below) = first_frame caller below

-- a procedure's own places in its expansion: the variables are the first ones there, and the OLD copies the last ones
abbrev pub own_number : List Place → List Place → ℕ → ℕ
own_number places wide k = if nat_lt k (length (variables_in places)) then k else k + (length wide - length places)

-- a frame stands at a call of a procedure that has no variables, so that no line stands before the callee's own
pub record CallsBare (procs : List WrittenProcedure) (frame : Frame) (c : ℕ) : Type 0 where
  pub caller : WrittenProcedure
  pub callee : WrittenProcedure
  pub arguments : List Passed
  pub there : slice_get procs frame.procedure ≡ Some caller
  pub line : slice_get caller.lines frame.line ≡ Some (call c arguments)
  pub called : slice_get procs c ≡ Some callee
  pub bare : length (variables_in callee.places) + length (inout_from 0 callee.places) ≡ 0

-- a line of an expansion comes from the line at which a frame stands; where that is such a call, it comes from the callee's first line
abbrev pub ComesFrom : List WrittenProcedure → List Origin → Frame → ℕ → Type 0
ComesFrom procs origins frame pc =
    (slice_get origins pc ≡ Some (origin_at frame.procedure frame.line)) ⊎ ((c : ℕ) × CallsBare procs frame c × (slice_get origins pc ≡ Some (origin_at c 0)))

-- a halt on a line of an expansion, and the same halt on the written line from which it comes
abbrev pub HaltsAlike : List Origin → ℕ → Halt → Halt → Type 0
HaltsAlike origins procedure End other = other ≡ End
HaltsAlike origins procedure Outside other = other ≡ Outside
HaltsAlike origins procedure FailedPost other = other ≡ FailedPost
HaltsAlike origins procedure (FailedAssert n) other = (pc : ℕ) × (other ≡ FailedAssert pc) × (slice_get origins pc ≡ Some (origin_at procedure n))
HaltsAlike origins procedure (DivZero n) other = (pc : ℕ) × (other ≡ DivZero pc) × (slice_get origins pc ≡ Some (origin_at procedure n))
HaltsAlike origins procedure (Range n) other = (pc : ℕ) × (other ≡ Range pc) × (slice_get origins pc ≡ Some (origin_at procedure n))

-- the first frame's values stand in its own places of the expansion
abbrev pub FirstStands : WrittenProcedure → Expansion → Stack → State → Type 0
FirstStands p e stack t = HasValues (own_number p.places e.places) p.places e.places (first_frame stack.last stack.below).values t

-- a procedure of a checked text, an initial state of it and one of its expansion with the same values in its own places
pub record Starts (t : WrittenText) (number : ℕ) (p : WrittenProcedure) (e : Expansion) (s wide : State) : Type 0 where
  pub checked : IsCalledText t
  pub there : slice_get (callees_of t.procs) number ≡ Some (record { written = p; expanded = e })
  pub initial : IsInitial p.places s
  pub expanded : IsInitial e.places wide
  pub same : HasValues (own_number p.places e.places) p.places e.places s wide

-- the expanded run stands where the stack does
pub record Follows (procs : List WrittenProcedure) (p : WrittenProcedure) (e : Expansion) (wide : State) (stack : Stack) : Type 0 where
  pub count : ℕ
  pub line : ℕ
  pub state : State
  pub steps : Steps (procedure_in e) count 0 wide line state
  pub comes : ComesFrom procs e.origins stack.last line
  pub first : FirstStands p e stack state

-- two runs end alike
pub record EndAlike (p : WrittenProcedure) (e : Expansion) (procedure : ℕ) (halt : Halt) (stack : Stack) (other : Halt) (state : State) : Type 0 where
  pub halts : HaltsAlike e.origins procedure halt other
  pub first : FirstStands p e stack state

pub record HaltsToo (p : WrittenProcedure) (e : Expansion) (wide : State) (procedure : ℕ) (halt : Halt) (stack : Stack) : Type 0 where
  pub count : ℕ
  pub other : Halt
  pub state : State
  pub halts : HaltsAfter (procedure_in e) count 0 wide other state
  pub alike : EndAlike p e procedure halt stack other state

pub record HaltsBefore (procs : List WrittenProcedure) (number : ℕ) (p : WrittenProcedure) (e : Expansion) (s : State) (other : Halt) (state : State) : Type 0 where
  pub count : ℕ
  pub procedure : ℕ
  pub halt : Halt
  pub stack : Stack
  pub halts : TurnsHalt procs count (alone number s) procedure halt stack
  pub alike : EndAlike p e procedure halt stack other state

-- after any number of steps of the stack machine the expanded run comes to where it stands, or halts where it does; and the stack machine halts
-- where the expanded run does
pub record RunsAlike (procs : List WrittenProcedure) (number : ℕ) (p : WrittenProcedure) (e : Expansion) (s wide : State) : Type 0 where
  pub follows : (n : ℕ) (stack : Stack) → Turns procs n (alone number s) stack → Follows procs p e wide stack
  pub halts : (n procedure : ℕ) (halt : Halt) (stack : Stack) → TurnsHalt procs n (alone number s) procedure halt stack → HaltsToo p e wide procedure halt stack
  pub only : (n : ℕ) (other : Halt) (state : State) → HaltsAfter (procedure_in e) n 0 wide other state → HaltsBefore procs number p e s other state

abbrev pub ExpandedRunsAlike : Type 0
ExpandedRunsAlike = (t : WrittenText) (number : ℕ) (p : WrittenProcedure) (e : Expansion) (s wide : State) → Starts t number p e s wide
    → RunsAlike t.procs number p e s wide
