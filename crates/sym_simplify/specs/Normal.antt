-- A normal term: its atoms ascend strictly, no coefficient is 0, and the sides of its atoms are normal too.
use Rattle.std.specs.Prelude.{◌≡◌, ◌≢◌, ℤ, pos, ◌+ℤ◌, List, [], ◌∷◌}
use Rattle.std.specs.declared.cmp.Ordering.{Ordering}
use Rattle.std.specs.declared.cmp.Ordering.TheVariants.{Less, Equal, Greater}
use Rattle.sym_simplify.specs.Form.{Form, constant, part, Factor, place, pair}
use Rattle.sym_simplify.specs.Order.{factor_cmp}
use Rattle.sym_simplify.specs.Norm.{Summand, alone, often}

-- the atom is below the first one of the normal term
abbrev pub IsBelow : Factor → Form → Type 0
IsBelow a (constant c) = Unit {0}
IsBelow a (part d b n) = factor_cmp a b ≡ Less

abbrev pub IsOrdered : Form → Type 0
IsOrdered (constant c) = Unit {0}
IsOrdered (part c a n) = (c ≢ pos 0) × IsBelow a n × IsOrdered n

abbrev mutual
  pub IsNormal : Form → Type 0
  IsNormal (constant c) = Unit {0}
  IsNormal (part c a n) = (c ≢ pos 0) × IsBelow a n × HasNormalSides a × IsNormal n

  pub HasNormalSides : Factor → Type 0
  HasNormalSides (place p) = Unit {0}
  HasNormalSides (pair k m n) = IsNormal m × IsNormal n

abbrev pub constant_of : Form → ℤ
constant_of (constant c) = c
constant_of (part c a n) = constant_of n

-- a number more where the comparison found two equal atoms
abbrev pub where_equal : Ordering → ℤ → ℤ → ℤ
where_equal Less c d = d
where_equal Equal c d = c +ℤ d
where_equal Greater c d = d

-- how often a normal term has the atom
abbrev pub coefficient_of : Factor → Form → ℤ
coefficient_of x (constant c) = pos 0
coefficient_of x (part c a n) = where_equal (factor_cmp x a) c (coefficient_of x n)

-- the sum of the numbers among summands
abbrev pub numbers_sum : List Summand → ℤ
numbers_sum [] = pos 0
numbers_sum (alone c ∷ more) = c +ℤ numbers_sum more
numbers_sum (often c a ∷ more) = numbers_sum more

-- the sum of the coefficients of the atom among summands
abbrev pub coefficients_sum : Factor → List Summand → ℤ
coefficients_sum x [] = pos 0
coefficients_sum x (alone c ∷ more) = coefficients_sum x more
coefficients_sum x (often c a ∷ more) = where_equal (factor_cmp x a) c (coefficients_sum x more)
