-- What the definition of a normal term says in plain words, of each term.
use Rattle.std.proofs.Common.{◌≡◌, ◌∙◌, sym, ap}
use Rattle.std.specs.Cmp.{IsTotalOrder}
use Rattle.sym_terms.specs.Tree.{Tree}
use Rattle.sym_simplify.specs.Form.{Form, constant, part, Factor}
use Rattle.sym_simplify.specs.Order.{form_cmp, factor_cmp}
use Rattle.sym_simplify.specs.Norm.{summands, norm}
use Rattle.sym_simplify.specs.Normal.{IsOrdered, IsNormal, constant_of, coefficient_of, numbers_sum, coefficients_sum}
use Rattle.sym_simplify.specs.Laws.{IsExactOrder}
use Rattle.sym_simplify.proofs.Ordered.{factor_equal, factor_self, form_flip, factor_flip}
use Rattle.sym_simplify.proofs.Chains.{form_chain, factor_chain}
use Rattle.sym_simplify.proofs.Unique.{same_normal, coefficient_is, constant_is}

pub norm_constant : (t : Tree) → constant_of (norm t) ≡ numbers_sum (summands t)
unfolding norm
norm_constant t = constant_is (summands t)

pub norm_coefficient : (t : Tree) (a : Factor) → coefficient_of a (norm t) ≡ coefficients_sum a (summands t)
unfolding norm
norm_coefficient t a = coefficient_is a (summands t)

ordered-from : (n : Form) → IsNormal n → IsOrdered n
ordered-from (constant c) h = tt
ordered-from (part c a n) h = (h.0, h.1, ordered-from n h.3)

pub norm_unique : (m n : Form) → IsNormal m → IsNormal n → constant_of m ≡ constant_of n → ((a : Factor) → coefficient_of a m ≡ coefficient_of a n) → m ≡ n
norm_unique m n h k e g = same_normal m n (ordered-from m h) (ordered-from n k) e g

form-total : IsTotalOrder form_cmp
form-total = record { antisymm = form_flip; trans = λ l m n h k. (form_chain l m n).less h k; congr = λ l m n h. (form_chain l m n).left h }

factor-total : IsTotalOrder factor_cmp
factor-total = record { antisymm = factor_flip; trans = λ a b c h k. (factor_chain a b c).less h k; congr = λ a b c h. (factor_chain a b c).left h }

pub exact_order : IsExactOrder
exact_order = record {
  atoms = factor-total;
  terms = form-total;
  equal = λ a b. (factor_equal a b, λ e. ap (factor_cmp a) (sym e) ∙ factor_self a);
}
