-- What holds of the answers for terms and literals that stand alone.
use Rattle.std.proofs.Common.{◌≡◌, ◌∙◌, ap, ℕ, ◌<◌, Result, Ok, Err, IfOk, arith}
use Rattle.il_core.specs.Evaluation.{State}
use Rattle.sym_terms.specs.declared.term.Literal.{Literal}
use Rattle.sym_terms.specs.Tree.{Tree, tree_of}
use Rattle.sym_terms.specs.Value.{value_of, literal_holds}
use Rattle.sym_terms.specs.Measure.{weight}
use Rattle.sym_terms.proofs.Terms.{tree_kept}
use Rattle.sym_terms.proofs.Grown.{keeps_le}
use Rattle.sym_simplify.specs.declared.normal.Normal.{Normal}
use Rattle.sym_simplify.specs.declared.normal.LitForm.{LitForm}
use Rattle.sym_simplify.specs.Form.{form_value}
use Rattle.sym_simplify.specs.Norm.{norm, heft}
use Rattle.sym_simplify.specs.Normal.{IsNormal}
use Rattle.sym_simplify.specs.Held.{form_of}
use Rattle.sym_simplify.specs.Literal.{form_of_literal, literal_form_of, form_holds}
use Rattle.sym_simplify.proofs.Sides.{norm_normal}
use Rattle.sym_simplify.proofs.NormValues.{norm_value}
use Rattle.sym_simplify.proofs.Hefts.{norm_heft}
use Rattle.sym_simplify.proofs.LiteralForms.{literal_keeps}

module _ {E : Type 0} (t : Tree) where
  pub norm_is_normal : (r : Result Normal E) → IfOk r (λ n. form_of n ≡ norm t) → IfOk r (λ n. IsNormal (form_of n))
  norm_is_normal (Ok n) h = rw h (norm_normal t)
  norm_is_normal (Err e) h = tt

  pub norm_keeps : (r : Result Normal E) → IfOk r (λ n. form_of n ≡ norm t) → IfOk r (λ n. (s : State) → form_value (form_of n) s ≡ value_of t s)
  norm_keeps (Ok n) h = λ s. ap (λ m. form_value m s) h ∙ norm_value t s
  norm_keeps (Err e) h = tt

  pub norm_is_small : (r : Result Normal E) (k : ℕ) → weight t < k → IfOk r (λ n. form_of n ≡ norm t) → IfOk r (λ n. heft (form_of n) < k)
  norm_is_small (Ok n) k l h = rw h (omega (arith, norm_heft t))
  norm_is_small (Err e) k l h = tt

pub literal_keeps_truth : {E : Type 0} (l : Literal) (r : Result LitForm E) → IfOk r (λ f. literal_form_of f ≡ form_of_literal l)
    → IfOk r (λ f. (s : State) → form_holds (literal_form_of f) s ≡ literal_holds l s)
literal_keeps_truth l (Ok f) h = λ s. ap (λ g. form_holds g s) h ∙ literal_keeps l.relation (tree_of l.left) (tree_of l.right) s
literal_keeps_truth l (Err e) h = tt

pub ruleset both_sides = (tree_kept, keeps_le)
