-- The places of a procedure that stand under other numbers among the places of another one, with their values; and what a step is there.
use Rattle.std.specs.Prelude.{◌≡◌, ℕ, ◌+◌, ◌<◌, List, length, slice_get, Some}
use Rattle.il_core.specs.Evaluation.{State, value_at}
use Rattle.il_core.specs.Machine.{Step}
use Rattle.il_core.specs.declared.line.Halt.{Halt}
use Rattle.il_core.specs.declared.line.Halt.TheVariants.{End, Outside, FailedAssert, FailedPost, DivZero, Range}
use Rattle.il_core.specs.declared.line.Next.{Next}
use Rattle.il_core.specs.declared.line.Next.TheVariants.{At, Halted}
use Rattle.il_core.specs.declared.line.Place.{Place}

-- a place that keeps the same of each value
pub record IsAlike (place other : Place) : Type 0 where
  pub flag : other.flag ≡ place.flag
  pub wrap : other.wrap ≡ place.wrap
  pub least : other.least ≡ place.least
  pub greatest : other.greatest ≡ place.greatest

pub record IsAmong (wide : List Place) (k : ℕ) (place : Place) : Type 0 where
  pub other : Place
  pub there : slice_get wide k ≡ Some other
  pub alike : IsAlike place other

-- each place has one of its kind among the wide ones, and no two have the same
pub record Stand (number : ℕ → ℕ) (places wide : List Place) : Type 0 where
  pub each : (p : ℕ) (place : Place) → slice_get places p ≡ Some place → IsAmong wide (number p) place
  pub apart : (p q : ℕ) → p < length places → q < length places → number p ≡ number q → p ≡ q

-- the values of the places stand there too
pub record HasValues (number : ℕ → ℕ) (places wide : List Place) (s t : State) : Type 0 where
  pub size : length s ≡ length places
  pub wide_size : length t ≡ length wide
  pub each : (p : ℕ) → p < length places → value_at t (number p) ≡ value_at s p

-- a halt at another line
abbrev pub halt_at : ℕ → Halt → Halt
halt_at pc End = End
halt_at pc Outside = Outside
halt_at pc FailedPost = FailedPost
halt_at pc (FailedAssert n) = FailedAssert pc
halt_at pc (DivZero n) = DivZero pc
halt_at pc (Range n) = Range pc

-- what follows on a line that stands at line pc of the wide procedure
abbrev pub own_next : (ℕ → ℕ) → ℕ → Next → Next
own_next line pc (At n) = At (line n)
own_next line pc (Halted h) = Halted (halt_at pc h)

-- in a procedure that is called the precondition and the postcondition are asserted, and the run goes on behind the latter
abbrev pub called_halt : ℕ → Halt → Next
called_halt pc End = At (pc + 1)
called_halt pc Outside = Halted (FailedAssert pc)
called_halt pc FailedPost = Halted (FailedAssert pc)
called_halt pc (FailedAssert n) = Halted (FailedAssert pc)
called_halt pc (DivZero n) = Halted (DivZero pc)
called_halt pc (Range n) = Halted (Range pc)

abbrev pub called_next : (ℕ → ℕ) → ℕ → Next → Next
called_next line pc (At n) = At (line n)
called_next line pc (Halted h) = called_halt pc h

-- two steps, one of which ends where the other one does by a map of ends, with the same values of the places
pub record EndsAlike (next : Next → Next) (number : ℕ → ℕ) (places wide : List Place) (a b : Step) : Type 0 where
  pub ends : b.next ≡ next a.next
  pub values : HasValues number places wide a.state b.state
