-- The value of a term in a state, over whole numbers without bound; a quotient by 0 is 0, and a remainder by 0 the dividend.
use Rattle.std.specs.Prelude.{ℤ, pos, ◌+ℤ◌, ◌*ℤ◌, Bool, if◌then◌else◌}
use Rattle.std.specs.Int.{int_div_euclid, int_rem_euclid}
use Rattle.std.specs.Ordering.{int_eq}
use Rattle.il_core.specs.Evaluation.{State, value_at, compares}
use Rattle.sym_terms.specs.Tree.{Tree, tree_of, number, variable, sum, product, quotient, remainder}
use Rattle.sym_terms.specs.declared.term.Literal.{Literal}

abbrev pub quotient_by : ℤ → ℤ → ℤ
quotient_by a b = if int_eq b (pos 0) then pos 0 else int_div_euclid a b

abbrev pub remainder_by : ℤ → ℤ → ℤ
remainder_by a b = if int_eq b (pos 0) then a else int_rem_euclid a b

abbrev pub value_of : Tree → State → ℤ
value_of (number n) s = n
value_of (variable p) s = value_at s p
value_of (sum a b) s = value_of a s +ℤ value_of b s
value_of (product a b) s = value_of a s *ℤ value_of b s
value_of (quotient a b) s = quotient_by (value_of a s) (value_of b s)
value_of (remainder a b) s = remainder_by (value_of a s) (value_of b s)

-- whether a literal holds in a state
abbrev pub literal_holds : Literal → State → Bool
literal_holds l s = compares l.relation (value_of (tree_of l.left) s) (value_of (tree_of l.right) s)
