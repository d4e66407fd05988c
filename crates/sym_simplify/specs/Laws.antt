-- What holds of the normal term of each term: its constant is the sum of the numbers among the summands, each coefficient the sum of those
-- that stand with its atom, and it is normal; it has the term's value in every state, and the term's weight bounds its numbers.
use Rattle.std.specs.Prelude.{◌≡◌, ◌≤◌, ◌↔◌, negsuc}
use Rattle.std.specs.Cmp.{IsTotalOrder}
use Rattle.std.specs.declared.cmp.Ordering.TheVariants.{Equal}
use Rattle.il_core.specs.Evaluation.{State}
use Rattle.sym_terms.specs.Tree.{Tree, number, sum, product}
use Rattle.sym_terms.specs.Value.{value_of}
use Rattle.sym_terms.specs.Measure.{weight}
use Rattle.sym_simplify.specs.Form.{Form, Factor, form_value}
use Rattle.sym_simplify.specs.Order.{form_cmp, factor_cmp}
use Rattle.sym_simplify.specs.Norm.{summands, norm, heft}
use Rattle.sym_simplify.specs.Normal.{IsNormal, constant_of, coefficient_of, numbers_sum, coefficients_sum}
use Rattle.sym_simplify.specs.Literal.{difference}

abbrev pub ConstantsAreSums : Type 0
ConstantsAreSums = (t : Tree) → constant_of (norm t) ≡ numbers_sum (summands t)

abbrev pub CoefficientsAreSums : Type 0
CoefficientsAreSums = (t : Tree) (a : Factor) → coefficient_of a (norm t) ≡ coefficients_sum a (summands t)

abbrev pub NormalTermsAreNormal : Type 0
NormalTermsAreNormal = (t : Tree) → IsNormal (norm t)

-- normal terms with the same constant and the same coefficients are the same
abbrev pub NormalTermsAreUnique : Type 0
NormalTermsAreUnique = (m n : Form) → IsNormal m → IsNormal n → constant_of m ≡ constant_of n → ((a : Factor) → coefficient_of a m ≡ coefficient_of a n) → m ≡ n

-- atoms are totally ordered, and only equal ones compare as equal
pub record IsExactOrder : Type 0 where
  pub atoms : IsTotalOrder factor_cmp
  pub terms : IsTotalOrder form_cmp
  pub equal : (a b : Factor) → (factor_cmp a b ≡ Equal) ↔ (a ≡ b)

abbrev pub NormalTermsKeepValues : Type 0
NormalTermsKeepValues = (t : Tree) (s : State) → form_value (norm t) s ≡ value_of t s

abbrev pub WeightsBoundNormalTerms : Type 0
WeightsBoundNormalTerms = (t : Tree) → heft (norm t) ≤ weight t

-- the difference of two terms is the normal term of the one plus -1 times the other
abbrev pub DifferencesAreNormalTerms : Type 0
DifferencesAreNormalTerms = (x y : Tree) → difference x y ≡ norm (sum x (product (number (negsuc 0)) y))
