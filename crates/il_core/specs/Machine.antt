-- The line machine: one step from a line and a state is a new line and state, or a halt that leaves the state as it is.
use Rattle.std.specs.Prelude.{ℕ, ◌+◌, ℤ, pos, ◌+ℤ◌, ◌-ℤ◌, Bool, true, false, ◌&&◌, Option, Some, None, List, if◌then◌else◌, int_le, slice_get, slice_set}
use Rattle.std.specs.Int.{int_rem_euclid}
use Rattle.std.specs.Option.{option_map}
use Rattle.il_core.specs.Expression.{Expression}
use Rattle.il_core.specs.Evaluation.{State, whole, holds}
use Rattle.il_core.specs.Procedure.{Procedure, Instruction, pre, assign, if_true, otherwise, end_if, loop, end_loop, exit, exit_when, label, goto, skip, assert, return, end_procedure}
use Rattle.il_core.specs.declared.line.Place.{Place}
use Rattle.il_core.specs.declared.line.Next.{Next}
use Rattle.il_core.specs.declared.line.Next.TheVariants.{At, Halted}
use Rattle.il_core.specs.declared.line.Halt.{Halt}
use Rattle.il_core.specs.declared.line.Halt.TheVariants.{End, Outside, FailedAssert, FailedPost, DivZero, Range}

pub record Step : Type 0 where
  pub next : Next
  pub state : State

abbrev pub goes : ℕ → State → Step
goes pc s = record { next = At pc; state = s }

abbrev pub stays : Halt → State → Step
stays h s = record { next = Halted h; state = s }

-- a condition leads to one of three: division by zero, true, false
abbrev pub decided : Option Bool → Step → Step → Step → Step
decided None fault met unmet = fault
decided (Some true) fault met unmet = met
decided (Some false) fault met unmet = unmet

-- the value that an expression gives a place: 0 or 1 where the place holds a truth value
abbrev pub bit : Bool → ℤ
bit true = pos 1
bit false = pos 0

abbrev pub given : Place → Expression → State → Option ℤ
given p e s = if p.flag then option_map bit (holds e s) else whole e s

abbrev pub lies_in : Place → ℤ → Bool
lies_in p v = int_le p.least v && int_le v p.greatest

-- the value of the range that differs from v by a multiple of the range's length
abbrev pub wrapped : Place → ℤ → ℤ
wrapped p v = p.least +ℤ int_rem_euclid (v -ℤ p.least) ((p.greatest -ℤ p.least) +ℤ pos 1)

-- what a place keeps of a value: all of it, wrapped or not, or nothing where it is out of range
abbrev pub kept : Place → ℤ → Option ℤ
kept p v = if p.wrap then Some (wrapped p v) else (if lies_in p v then Some v else None)

abbrev pub stored : ℕ → ℕ → State → Option ℤ → Step
stored pc p s None = stays (Range pc) s
stored pc p s (Some v) = goes (pc + 1) (slice_set s p v)

abbrev pub assigned_to : ℕ → ℕ → Place → State → Option ℤ → Step
assigned_to pc p place s None = stays (DivZero pc) s
assigned_to pc p place s (Some v) = stored pc p s (kept place v)

-- a place that is not there keeps nothing; a checked procedure assigns none
abbrev pub assigned : ℕ → ℕ → Expression → State → Option Place → Step
assigned pc p e s None = stays (Range pc) s
assigned pc p e s (Some place) = assigned_to pc p place s (given place e s)

-- the step of one instruction at line pc
abbrev pub stepped : List Place → ℕ → State → Instruction → Step
stepped places pc s (pre e) = decided (holds e s) (stays (DivZero pc) s) (goes (pc + 1) s) (stays Outside s)
stepped places pc s (assign p e) = assigned pc p e s (slice_get places p)
stepped places pc s (if_true e q) = decided (holds e s) (stays (DivZero pc) s) (goes (pc + 1) s) (goes q s)
stepped places pc s (otherwise q) = goes q s
stepped places pc s end_if = goes (pc + 1) s
stepped places pc s loop = goes (pc + 1) s
stepped places pc s (end_loop q) = goes q s
stepped places pc s (exit q) = goes q s
stepped places pc s (exit_when e q) = decided (holds e s) (stays (DivZero pc) s) (goes q s) (goes (pc + 1) s)
stepped places pc s label = goes (pc + 1) s
stepped places pc s (goto q) = goes q s
stepped places pc s skip = goes (pc + 1) s
stepped places pc s (assert e) = decided (holds e s) (stays (DivZero pc) s) (goes (pc + 1) s) (stays (FailedAssert pc) s)
stepped places pc s (return q) = goes q s
stepped places pc s (end_procedure e) = decided (holds e s) (stays (DivZero pc) s) (stays End s) (stays FailedPost s)

-- past the last line there is nothing to step; no run of a checked procedure comes there
abbrev pub stepped_at : List Place → ℕ → State → Option Instruction → Step
stepped_at places pc s None = stays End s
stepped_at places pc s (Some i) = stepped places pc s i

-- the step from line pc and state s
unfoldable pub step : Procedure → ℕ → State → Step
step p pc s = stepped_at p.places pc s (slice_get p.lines pc)
