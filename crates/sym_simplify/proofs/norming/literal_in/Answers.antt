-- The difference of the sides' normal terms.
use Rattle.std.proofs.Common.{◌∙◌}
use Rattle.sym_terms.specs.Nodes.{tree_at}
use Rattle.sym_simplify.specs.Literal.{difference}
use Rattle.sym_simplify.proofs.Cells.{form_kept}
use Rattle.sym_simplify.proofs.LiteralForms.{form_again}
use Rattle.sym_simplify.proofs.KeptForms.{literal_fits}
use Rattle.sym_simplify.proofs.Remembered.{sides_bound, difference_form, difference_small}
use Rattle.sym_simplify.proofs.norming.literal_in.Goals as goal

pub difference-requires-clause-small : goal.difference-requires-clause-small
difference-requires-clause-small c =
    sides_bound (tree_at c.args.terms.now c.args.left) (tree_at c.args.terms.now c.args.right) _ _ _ c.requires.weight
    (form_kept c.norm_in.new.table c.norm_in-2.new.table c.in_ok-first.first c.norm_in-2.ensures.kept c.in_ok-first.ensures.within ∙ c.in_ok-first.ensures.form)
    c.in_ok-second.ensures.form

pub compared-requires-clause-small : goal.compared-requires-clause-small
compared-requires-clause-small c =
    difference_small (tree_at c.args.terms.now c.args.left) (tree_at c.args.terms.now c.args.right) _ _ c.requires.weight
    (difference_form (tree_at c.args.terms.now c.args.left) (tree_at c.args.terms.now c.args.right) _ _ _ c.in_ok-form.ensures.form
    (form_kept c.norm_in.new.table c.norm_in-2.new.table c.in_ok-first.first c.norm_in-2.ensures.kept c.in_ok-first.ensures.within ∙ c.in_ok-first.ensures.form)
    c.in_ok-second.ensures.form)

pub returns-clause-form : goal.returns-clause-form
returns-clause-form c =
    form_again c.compared.result c.args.relation _ (difference (tree_at c.args.terms.now c.args.left) (tree_at c.args.terms.now c.args.right))
    (difference_form (tree_at c.args.terms.now c.args.left) (tree_at c.args.terms.now c.args.right) _ _ _ c.in_ok-form.ensures.form
    (form_kept c.norm_in.new.table c.norm_in-2.new.table c.in_ok-first.first c.norm_in-2.ensures.kept c.in_ok-first.ensures.within ∙ c.in_ok-first.ensures.form)
    c.in_ok-second.ensures.form)
    c.compared.ensures

pub returns-clause-fits : goal.returns-clause-fits
returns-clause-fits c =
    literal_fits c.compared.result c.args.relation (tree_at c.args.terms.now c.args.left) (tree_at c.args.terms.now c.args.right) _ c.requires.weight (returns-clause-form c)
