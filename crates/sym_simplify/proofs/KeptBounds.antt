-- What keeps the numbers of a form small together keeps each of them small; and the difference of two terms is a normal term of a term.
use Rattle.std.proofs.Common.{◌≡◌, refl, ◌<◌, ◌≤◌, ◌^◌, ◌+◌, ℕ, negsuc, arith}
use Rattle.std.proofs.Common.{unsigned_abs}
use Rattle.sym_terms.specs.Tree.{Tree, number, sum, product}
use Rattle.sym_simplify.specs.Form.{Form, constant, part}
use Rattle.sym_simplify.specs.Norm.{heft, norm}
use Rattle.sym_simplify.specs.Literal.{LiteralForm, always, never, keep, difference, IsKeptBelow}
use Rattle.sym_simplify.specs.Easy.{AreCoefficientsWithin, IsKept}

coefficients-within : (k : ℕ) (n : Form) → heft n ≤ k → AreCoefficientsWithin k n
coefficients-within k (constant c) h = tt
coefficients-within k (part c a n) h = (omega arith, coefficients-within k n (omega arith))

pub kept-below : (f : LiteralForm) → IsKeptBelow (2 ^ 100) f → IsKept f
kept-below always h = tt
kept-below never h = tt
kept-below (keep n r bound) h = (h.0, h.1, h.2, coefficients-within (2 ^ 100) n (small (heft n) (unsigned_abs bound) (2 ^ 100) h.3), small-bound (heft n) (unsigned_abs bound) (2 ^ 100) h.3)
  where
    small : (a b k : ℕ) → a + b < k → a ≤ k
    small a b k h = omega arith

    small-bound : (a b k : ℕ) → a + b < k → b ≤ k
    small-bound a b k h = omega arith

-- the difference of two terms is the normal term of the one less the other
pub difference-norm : (x y : Tree) → difference x y ≡ norm (sum x (product (number (negsuc 0)) y))
unfolding difference norm
difference-norm x y = refl
