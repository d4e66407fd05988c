-- The normal term of a term: its constant is the sum of the numbers among the summands, and each atom's coefficient is the sum of the
-- coefficients that stand with it.
use Rattle.std.specs.Prelude.{ℕ, ℤ, pos, ◌+◌, ◌+ℤ◌, ◌*ℤ◌, unsigned_abs, List, [], ◌∷◌, ◌++◌, map, if◌then◌else◌}
use Rattle.std.specs.Ordering.{int_eq}
use Rattle.std.specs.declared.cmp.Ordering.{Ordering}
use Rattle.std.specs.declared.cmp.Ordering.TheVariants.{Less, Equal, Greater}
use Rattle.sym_terms.specs.Tree.{Tree, number, variable, sum, product, quotient, remainder}
use Rattle.sym_simplify.specs.Form.{Kind, times, over, rest, kind_value, Form, constant, part, Factor, place, pair}
use Rattle.sym_simplify.specs.Order.{form_cmp, factor_cmp}

-- a summand: a number, or an atom as often as a coefficient says
pub data Summand : Type 0 where
  alone : ℤ → Summand
  often : ℤ → Factor → Summand

abbrev pub scaled : ℤ → Summand → Summand
scaled c (alone d) = alone (c *ℤ d)
scaled c (often d a) = often (c *ℤ d) a

-- a part before a normal term, where its coefficient is not 0
abbrev pub before : ℤ → Factor → Form → Form
before c a n = if int_eq c (pos 0) then n else part c a n

-- a coefficient of the atom a beside the first part, of the atom b
abbrev pub beside : Ordering → ℤ → Factor → ℤ → Factor → Form → Form → Form
beside Less c a d b n later = before c a (part d b n)
beside Equal c a d b n later = before (c +ℤ d) b n
beside Greater c a d b n later = part d b later

-- one more coefficient of an atom
abbrev pub insert : ℤ → Factor → Form → Form
insert c a (constant d) = before c a (constant d)
insert c a (part d b n) = beside (factor_cmp a b) c a d b n (insert c a n)

-- one more number
abbrev pub shift : ℤ → Form → Form
shift c (constant d) = constant (c +ℤ d)
shift c (part d b n) = part d b (shift c n)

abbrev pub normal_of : List Summand → Form
normal_of [] = constant (pos 0)
normal_of (alone c ∷ more) = shift c (normal_of more)
normal_of (often c a ∷ more) = insert c a (normal_of more)

abbrev pub lesser_first : Ordering → Form → Form → Factor
lesser_first Less m n = pair times m n
lesser_first Equal m n = pair times m n
lesser_first Greater m n = pair times n m

-- the summands of a product, from the normal terms and the summands of its sides
abbrev pub product_of : Form → Form → List Summand → List Summand → List Summand
product_of (constant c) n xs ys = map (scaled c) ys
product_of (part c a m) (constant d) xs ys = map (scaled d) xs
product_of (part c a m) (part d b n) xs ys = often (pos 1) (lesser_first (form_cmp (part c a m) (part d b n)) (part c a m) (part d b n)) ∷ []

-- the summands of a quotient or a remainder, from the normal terms of its sides
abbrev pub division_of : Kind → Form → Form → List Summand
division_of k (constant c) (constant d) = alone (kind_value k c d) ∷ []
division_of k (constant c) (part d b n) = often (pos 1) (pair k (constant c) (part d b n)) ∷ []
division_of k (part c a m) n = often (pos 1) (pair k (part c a m) n) ∷ []

abbrev pub summands : Tree → List Summand
summands (number c) = alone c ∷ []
summands (variable p) = often (pos 1) (place p) ∷ []
summands (sum x y) = summands x ++ summands y
summands (product x y) = product_of (normal_of (summands x)) (normal_of (summands y)) (summands x) (summands y)
summands (quotient x y) = division_of over (normal_of (summands x)) (normal_of (summands y))
summands (remainder x y) = division_of rest (normal_of (summands x)) (normal_of (summands y))

unfoldable pub norm : Tree → Form
norm t = normal_of (summands t)

-- how far the numbers of a normal term reach: the absolute values of its coefficients and of its constant together
abbrev pub heft : Form → ℕ
heft (constant c) = unsigned_abs c
heft (part c a n) = unsigned_abs c + heft n
