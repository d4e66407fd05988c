-- What is counted while shares are added up: a number, and atoms with their coefficients.
use Rattle.std.specs.Prelude.{ℕ, ◌≤◌, ℤ, unsigned_abs, List, [], ◌∷◌}
use Rattle.std.specs.Int.{int_div_euclid}
use Rattle.sym_simplify.specs.Form.{Form, constant, part, Factor, place}
use Rattle.sym_simplify.specs.Held.{factor_of}
use Rattle.threat_certs.specs.declared.adding.Indeterminate.{Indeterminate}
use Rattle.threat_certs.specs.declared.adding.Indeterminate.TheVariants.{Place, Held}
use Rattle.threat_certs.specs.declared.adding.Counted.{Counted}
use Rattle.threat_certs.specs.declared.adding.Total.{Total}

abbrev pub factor_in : Indeterminate → Factor
factor_in (Place p) = place p
factor_in (Held a) = factor_of a.now

-- counted atoms before a normal term
abbrev pub counted_before : List Counted → Form → Form
counted_before [] n = n
counted_before (c ∷ cs) n = part c.coefficient (factor_in c.factor) (counted_before cs n)

abbrev pub total_in : Total → Form
total_in t = counted_before t.parts.items (constant t.constant)

-- each number of a normal term is inside ±k
abbrev pub AreNumbersWithin : ℕ → Form → Type 0
AreNumbersWithin k (constant c) = unsigned_abs c ≤ k
AreNumbersWithin k (part c a n) = (unsigned_abs c ≤ k) × AreNumbersWithin k n

-- the same with another coefficient
abbrev pub with_coefficient : ℤ → Counted → Counted
with_coefficient k c = record { coefficient = k; factor = c.factor }

-- the coefficients divided by a number, and another constant
abbrev pub divided : ℤ → ℤ → Form → Form
divided g d (constant c) = constant d
divided g d (part c a n) = part (int_div_euclid c g) a (divided g d n)
