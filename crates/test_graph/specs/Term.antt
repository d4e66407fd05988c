-- The term of an expression for whole numbers: a difference is the sum with -1 times the right side, and a leading minus is -1 times its side.
use Rattle.std.specs.Prelude.{pos, negsuc, neg_ℤ, ◌+ℤ◌, ◌-ℤ◌}
use Rattle.il_core.specs.Expression as e
use Rattle.il_core.specs.Expression.{Expression}
use Rattle.il_core.specs.declared.line.Place.{Place}
use Rattle.il_core.specs.declared.operator.BinOp.{BinOp}
use Rattle.il_core.specs.declared.operator.BinOp.TheVariants.{Add, Sub, Mul, Div, Mod, Compare, And, Or}
use Rattle.sym_terms.specs.Tree.{Tree, number, variable, sum, product, quotient, remainder}

abbrev pub opposite_term : Tree → Tree
opposite_term t = product (number (negsuc 0)) t

-- a comparison, AND and OR have no term, and 0 stands there
abbrev pub operator_term : BinOp → Tree → Tree → Tree
operator_term Add a b = sum a b
operator_term Sub a b = sum a (opposite_term b)
operator_term Mul a b = product a b
operator_term Div a b = quotient a b
operator_term Mod a b = remainder a b
operator_term (Compare r) a b = number (pos 0)
operator_term And a b = number (pos 0)
operator_term Or a b = number (pos 0)

-- a condition has no term, and 0 stands there
abbrev pub term_of : Expression → Tree
term_of (e.number n) = number n
term_of (e.variable p) = variable p
term_of (e.flag p) = number (pos 0)
term_of (e.truth b) = number (pos 0)
term_of (e.minus a) = opposite_term (term_of a)
term_of (e.opposite a) = number (pos 0)
term_of (e.two o a b) = operator_term o (term_of a) (term_of b)

-- the term of the value in the place's range that differs from that of t by a multiple of the range's length
abbrev pub wrapped_term : Place → Tree → Tree
wrapped_term p t = sum (number p.least) (remainder (sum t (number (neg_ℤ p.least))) (number ((p.greatest -ℤ p.least) +ℤ pos 1)))
