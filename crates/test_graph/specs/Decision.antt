-- The single decisions of a line, in the order of evaluation: each is a comparison that is true or false, and at the end of each way through them stands what is assigned and where the line leads.
use Rattle.std.specs.Prelude.{ℕ, ◌+◌, pos, Bool, ◌&&◌, Option, Some, None, List, if◌then◌else◌, int_lt, int_le, slice_get}
use Rattle.il_core.specs.Expression as e
use Rattle.il_core.specs.Expression.{Expression}
use Rattle.il_core.specs.Bounds.{Bounds, bounds_of}
use Rattle.il_core.specs.Procedure.{Procedure, Instruction, pre, assign, if_true, otherwise, end_if, loop, end_loop, exit, exit_when, label, goto, skip, assert, return, end_procedure}
use Rattle.il_core.specs.declared.line.Place.{Place}
use Rattle.il_core.specs.declared.line.Next.{Next}
use Rattle.il_core.specs.declared.line.Next.TheVariants.{At, Halted}
use Rattle.il_core.specs.declared.line.Halt.{Halt}
use Rattle.il_core.specs.declared.line.Halt.TheVariants.{End, Outside, FailedAssert, FailedPost, DivZero, Range}
use Rattle.il_core.specs.declared.operator.BinOp.{BinOp}
use Rattle.il_core.specs.declared.operator.BinOp.TheVariants.{Add, Sub, Mul, Div, Mod, Compare, And, Or}
use Rattle.il_core.specs.declared.operator.Relation.TheVariants.{Ne, Le, Ge}
use Rattle.sym_terms.specs.Tree.{Tree, number, variable}
use Rattle.sym_terms.specs.Comparison.{Comparison}
use Rattle.test_graph.specs.Term.{term_of, wrapped_term}

-- the place that gets a new value, and the term of that value
pub record Change : Type 0 where
  pub place : ℕ
  pub term : Tree

-- a decision has its true side first
pub data Decision : Type 0 where
  ask : Comparison → Decision → Decision → Decision
  done : Option Change → Next → Decision

abbrev pub goes_to : ℕ → Decision
goes_to pc = done None (At pc)

abbrev pub halts : Halt → Decision
halts h = done None (Halted h)

-- place p gets the value of a term, and the next line follows
abbrev pub sets : ℕ → ℕ → Tree → Decision
sets pc p t = done (Some (record { place = p; term = t })) (At (pc + 1))

-- 0 lies within the bounds
abbrev pub holds_zero : Bounds → Bool
holds_zero b = int_le b.low (pos 0) && int_le (pos 0) b.high

-- the divisor is not 0: decided where the static bounds of the divisor hold 0
abbrev pub not_zero : List Place → Expression → Decision → Decision → Decision
not_zero places divisor rest fault = if holds_zero (bounds_of places divisor)
    then ask (record { left = term_of divisor; relation = Ne; right = number (pos 0) }) rest fault else rest

-- DIV and MOD decide, after both sides, that the divisor is not 0
abbrev pub guarded : List Place → BinOp → Expression → Decision → Decision → Decision
guarded places Div b rest fault = not_zero places b rest fault
guarded places Mod b rest fault = not_zero places b rest fault
guarded places Add b rest fault = rest
guarded places Sub b rest fault = rest
guarded places Mul b rest fault = rest
guarded places (Compare r) b rest fault = rest
guarded places And b rest fault = rest
guarded places Or b rest fault = rest

-- the decisions of an expression for whole numbers are those of its divisors, from left to right
abbrev pub divided : List Place → Expression → Decision → Decision → Decision
divided places (e.number n) rest fault = rest
divided places (e.variable p) rest fault = rest
divided places (e.flag p) rest fault = rest
divided places (e.truth b) rest fault = rest
divided places (e.minus a) rest fault = divided places a rest fault
divided places (e.opposite a) rest fault = rest
divided places (e.two o a b) rest fault = divided places a (divided places b (guarded places o b rest fault) fault) fault

-- the decisions of a condition, which leads to `on`, `off` or a division by zero: a truth value decides that it is at least 1,
-- TRUE and FALSE decide nothing, NOT swaps the sides, AND and OR decide the right side only where it counts, and a
-- comparison follows the decisions of its sides; an expression of another kind is no condition, and has no value
abbrev pub decided_on : List Place → Expression → Decision → Decision → Decision → Decision
decided_on places (e.number n) on off fault = fault
decided_on places (e.variable p) on off fault = fault
decided_on places (e.flag p) on off fault = ask (record { left = variable p; relation = Ge; right = number (pos 1) }) on off
decided_on places (e.truth b) on off fault = if b then on else off
decided_on places (e.minus a) on off fault = fault
decided_on places (e.opposite a) on off fault = decided_on places a off on fault
decided_on places (e.two (Compare r) a b) on off fault =
    divided places a (divided places b (ask (record { left = term_of a; relation = r; right = term_of b }) on off) fault) fault
decided_on places (e.two And a b) on off fault = decided_on places a (decided_on places b on off fault) off fault
decided_on places (e.two Or a b) on off fault = decided_on places a on (decided_on places b on off fault) fault
decided_on places (e.two Add a b) on off fault = fault
decided_on places (e.two Sub a b) on off fault = fault
decided_on places (e.two Mul a b) on off fault = fault
decided_on places (e.two Div a b) on off fault = fault
decided_on places (e.two Mod a b) on off fault = fault

-- the value is not below the range: decided where the static bounds reach below it
abbrev pub at_least : Place → Bounds → Tree → Decision → Decision → Decision
at_least place b t rest fault = if int_lt b.low place.least
    then ask (record { left = t; relation = Ge; right = number place.least }) rest fault else rest

-- the value is not above the range: decided where the static bounds reach above it
abbrev pub at_most : Place → Bounds → Tree → Decision → Decision → Decision
at_most place b t rest fault = if int_lt place.greatest b.high
    then ask (record { left = t; relation = Le; right = number place.greatest }) rest fault else rest

abbrev pub lies_within : Place → Bounds → Bool
lies_within place b = int_le place.least b.low && int_le b.high place.greatest

-- what a place with a wrapping range gets: the term itself where the static bounds lie within the range
abbrev pub fitted_term : Place → Bounds → Tree → Tree
fitted_term place b t = if lies_within place b then t else wrapped_term place t

-- the decisions on the range of a value and what is assigned: a wrapping range decides nothing
abbrev pub ranged : ℕ → ℕ → Place → Bounds → Tree → Decision
ranged pc p place b t = if place.wrap then sets pc p (fitted_term place b t)
    else at_least place b t (at_most place b t (sets pc p t) (halts (Range pc))) (halts (Range pc))

-- an assignment of a whole number: its divisors, then its range
abbrev pub whole_given : List Place → ℕ → ℕ → Place → Expression → Decision
whole_given places pc p place x = divided places x (ranged pc p place (bounds_of places x) (term_of x)) (halts (DivZero pc))

-- a condition's decisions, then 1 or 0
abbrev pub bit_given : List Place → ℕ → ℕ → Expression → Decision
bit_given places pc p x = decided_on places x (sets pc p (number (pos 1))) (sets pc p (number (pos 0))) (halts (DivZero pc))

-- an assignment of a truth value: a single variable is copied without a decision
abbrev pub flag_given : List Place → ℕ → ℕ → Expression → Decision
flag_given places pc p (e.flag q) = sets pc p (variable q)
flag_given places pc p (e.number n) = bit_given places pc p (e.number n)
flag_given places pc p (e.variable q) = bit_given places pc p (e.variable q)
flag_given places pc p (e.truth b) = bit_given places pc p (e.truth b)
flag_given places pc p (e.minus a) = bit_given places pc p (e.minus a)
flag_given places pc p (e.opposite a) = bit_given places pc p (e.opposite a)
flag_given places pc p (e.two o a b) = bit_given places pc p (e.two o a b)

-- a place that is not there keeps nothing; a checked procedure assigns none
abbrev pub given_to : List Place → ℕ → ℕ → Expression → Option Place → Decision
given_to places pc p x None = halts (Range pc)
given_to places pc p x (Some place) = if place.flag then flag_given places pc p x else whole_given places pc p place x

-- the decisions of an instruction at line pc
abbrev pub decision_of : List Place → ℕ → Instruction → Decision
decision_of places pc (pre x) = decided_on places x (goes_to (pc + 1)) (halts Outside) (halts (DivZero pc))
decision_of places pc (assign p x) = given_to places pc p x (slice_get places p)
decision_of places pc (if_true x q) = decided_on places x (goes_to (pc + 1)) (goes_to q) (halts (DivZero pc))
decision_of places pc (otherwise q) = goes_to q
decision_of places pc end_if = goes_to (pc + 1)
decision_of places pc loop = goes_to (pc + 1)
decision_of places pc (end_loop q) = goes_to q
decision_of places pc (exit q) = goes_to q
decision_of places pc (exit_when x q) = decided_on places x (goes_to q) (goes_to (pc + 1)) (halts (DivZero pc))
decision_of places pc label = goes_to (pc + 1)
decision_of places pc (goto q) = goes_to q
decision_of places pc skip = goes_to (pc + 1)
decision_of places pc (assert x) = decided_on places x (goes_to (pc + 1)) (halts (FailedAssert pc)) (halts (DivZero pc))
decision_of places pc (return q) = goes_to q
decision_of places pc (end_procedure x) = decided_on places x (halts End) (halts FailedPost) (halts (DivZero pc))

-- past the last line there is nothing to decide
abbrev pub decision_there : List Place → ℕ → Option Instruction → Decision
decision_there places pc None = halts End
decision_there places pc (Some i) = decision_of places pc i

-- the decisions of line pc
unfoldable pub decision_at : Procedure → ℕ → Decision
decision_at p pc = decision_there p.places pc (slice_get p.lines pc)
