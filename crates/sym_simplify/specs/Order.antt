-- The order of normal terms: by their parts, first atom, then coefficient, a proper prefix first, and then by the constant. The order
-- of atoms: places, products, quotients, remainders; places by number, all others by the left side and then the right one.
use Rattle.std.specs.Prelude.{ℕ}
use Rattle.std.specs.Ordering.{nat_cmp, int_cmp, ordering_then}
use Rattle.std.specs.declared.cmp.Ordering.{Ordering}
use Rattle.std.specs.declared.cmp.Ordering.TheVariants.{Less, Greater}
use Rattle.sym_simplify.specs.Form.{Kind, times, over, rest, Form, constant, part, Factor, place, pair}

abbrev pub rank : Kind → ℕ
rank times = 0
rank over = 1
rank rest = 2

abbrev mutual
  pub form_cmp : Form → Form → Ordering
  form_cmp (constant c) (constant d) = int_cmp c d
  form_cmp (constant c) (part d b n) = Less
  form_cmp (part c a m) (constant d) = Greater
  form_cmp (part c a m) (part d b n) = ordering_then (factor_cmp a b) (ordering_then (int_cmp c d) (form_cmp m n))

  pub factor_cmp : Factor → Factor → Ordering
  factor_cmp (place p) (place q) = nat_cmp p q
  factor_cmp (place p) (pair l j n) = Less
  factor_cmp (pair k i m) (place q) = Greater
  factor_cmp (pair k i m) (pair l j n) = ordering_then (nat_cmp (rank k) (rank l)) (ordering_then (form_cmp i j) (form_cmp m n))
