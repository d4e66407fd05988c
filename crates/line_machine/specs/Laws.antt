-- What holds of division, of static bounds and of each step, for all numbers, procedures and states.
use Rattle.std.specs.Prelude.{◌≡◌, ◌≢◌, ℕ, ◌<◌, ℤ, pos, ◌+ℤ◌, ◌*ℤ◌, ◌≤ℤ◌, ◌<ℤ◌, unsigned_abs, List, length, Some}
use Rattle.std.specs.Int.{int_div_euclid, int_rem_euclid}
use Rattle.il_core.specs.Expression.{Expression}
use Rattle.il_core.specs.Evaluation.{State, whole}
use Rattle.il_core.specs.Bounds.{bounds_of}
use Rattle.il_core.specs.Kind.{IsWhole}
use Rattle.il_core.specs.Machine.{step}
use Rattle.il_core.specs.Procedure.{Procedure}
use Rattle.il_core.specs.LineGraph.{HasArc}
use Rattle.il_core.specs.Run.{IsInRange}
use Rattle.il_core.specs.Checked.{IsChecked}
use Rattle.il_core.specs.declared.line.Place.{Place}
use Rattle.il_core.specs.declared.line.Next.TheVariants.{At}

-- by a divisor other than 0: the dividend is the divisor times the quotient and the remainder, which is at least 0 and
-- below the divisor's absolute value
pub record Divides (a b : ℤ) : Type 0 where
  pub whole : a ≡ (b *ℤ int_div_euclid a b) +ℤ int_rem_euclid a b
  pub low : pos 0 ≤ℤ int_rem_euclid a b
  pub high : int_rem_euclid a b <ℤ pos (unsigned_abs b)

abbrev pub DivisionIsEuclidean : Type 0
DivisionIsEuclidean = (a b : ℤ) → b ≢ pos 0 → Divides a b

-- a value that a well typed expression has in a state in range lies within its static bounds
abbrev pub BoundsHold : Type 0
BoundsHold = (places : List Place) (s : State) (e : Expression) (v : ℤ) → IsInRange places s → IsWhole places e → whole e s ≡ Some v
    → ((bounds_of places e).low ≤ℤ v) × (v ≤ℤ (bounds_of places e).high)

-- a step of a checked procedure leads to a state in range and, where it does not halt, along an arc to one of its lines
pub record StaysInside (p : Procedure) (pc : ℕ) (s : State) : Type 0 where
  pub in_range : IsInRange p.places (step p pc s).state
  pub along : (q : ℕ) → (step p pc s).next ≡ At q → HasArc p pc q
  pub inside : (q : ℕ) → (step p pc s).next ≡ At q → q < length p.lines

abbrev pub StepsStayInside : Type 0
StepsStayInside = (p : Procedure) (pc : ℕ) (s : State) → IsChecked p → IsInRange p.places s → StaysInside p pc s
