-- The bounds of sides, and what is known after one more answer.
use Rattle.std.proofs.Common.{rules, ◌<◌, ◌∙◌}
use Rattle.sym_terms.specs.Nodes.{tree_at}
use Rattle.sym_terms.specs.Measure.{weight}
use Rattle.sym_simplify.specs.Form.{constant}
use Rattle.sym_simplify.proofs.Cells.{form_kept}
use Rattle.sym_simplify.proofs.Norms.{sum_bound, product_bound, left_bound, right_bound, dividend_bound, dividend_bound_of_rest}
use Rattle.sym_simplify.proofs.Remembered.{known_kept, known_put, open_kept}
use Rattle.sym_simplify.proofs.norming.+norming.Goals as goal

pub norm_in-returns-clause-known : goal.norm_in-returns-clause-known
norm_in-returns-clause-known t c =
    known_put c.args.terms.now c.closed.new.self c.open_in.new.known c.insert.new.self c.args.id c.in_ok-form.form
    (known_kept c.args.terms.now c.open_in.new.table c.closed.new.self c.open_in.new.known c.closed.ensures.kept c.open_in.ensures.known)
    (search rules) c.requires.id c.in_ok-form.ensures.within (c.in_ok-form.ensures.form ∙ c.in_ok-open.ensures.form)

pub open_in-merged-requires-clause-small : goal.open_in-merged-requires-clause-small
open_in-merged-requires-clause-small t c =
    sum_bound (tree_at c.args.terms.now c.args.id) (tree_at c.args.terms.now c.in-Add.a) (tree_at c.args.terms.now c.in-Add.b) _ _ _ c.in-Add.ensures.term c.requires.weight
    (open_kept c.side_in.new.table c.side_in-in-Add.new.table c.in_ok-left-in-Add.left.parts.items (constant c.in_ok-left-in-Add.left.constant) c.side_in-in-Add.ensures.kept c.in_ok-left-in-Add.ensures.within
    ∙ c.in_ok-left-in-Add.ensures.form)
    c.in_ok-right-in-Add.ensures.form

pub open_in-norm_in-requires : goal.open_in-norm_in-requires
open_in-norm_in-requires t c =
    let small : weight (tree_at c.args.terms.now c.in-Mul.a) < 1267650600228229401496703205376
    = left_bound (tree_at c.args.terms.now c.args.id) _ (tree_at c.args.terms.now c.in-Mul.b) _ c.in-Mul.ensures.term c.requires.weight in
    search rules

pub open_in-norm_in-requires-in-Mul : goal.open_in-norm_in-requires-in-Mul
open_in-norm_in-requires-in-Mul t c =
    let small : weight (tree_at c.args.terms.now c.in-Mul.b) < 1267650600228229401496703205376
    = right_bound (tree_at c.args.terms.now c.args.id) (tree_at c.args.terms.now c.in-Mul.a) _ _ c.in-Mul.ensures.term c.requires.weight in
    search rules

pub open_in-product-requires-clause-small : goal.open_in-product-requires-clause-small
open_in-product-requires-clause-small t c =
    product_bound (tree_at c.args.terms.now c.args.id) (tree_at c.args.terms.now c.in-Mul.a) (tree_at c.args.terms.now c.in-Mul.b) _ _ _ c.in-Mul.ensures.term c.requires.weight
    (form_kept c.norm_in.new.table c.norm_in-in-Mul.new.table c.in_ok-left-in-Mul.left c.norm_in-in-Mul.ensures.kept c.in_ok-left-in-Mul.ensures.within ∙ c.in_ok-left-in-Mul.ensures.form)
    c.in_ok-right-in-Mul.ensures.form

pub open_in-quotient-requires-clause-small : goal.open_in-quotient-requires-clause-small
open_in-quotient-requires-clause-small t c =
    dividend_bound (tree_at c.args.terms.now c.args.id) (tree_at c.args.terms.now c.in-Div.a) (tree_at c.args.terms.now c.in-Div.b) _ _ c.in-Div.ensures.term c.requires.weight
    (form_kept c.norm_in-in-Div.new.table c.norm_in-in-Div-2.new.table c.in_ok-left-in-Div.left c.norm_in-in-Div-2.ensures.kept c.in_ok-left-in-Div.ensures.within ∙ c.in_ok-left-in-Div.ensures.form)

pub open_in-remainder-requires-clause-small : goal.open_in-remainder-requires-clause-small
open_in-remainder-requires-clause-small t c =
    dividend_bound_of_rest (tree_at c.args.terms.now c.args.id) (tree_at c.args.terms.now c.in-Mod.a) (tree_at c.args.terms.now c.in-Mod.b) _ _ c.in-Mod.ensures.term c.requires.weight
    (form_kept c.norm_in-in-Mod.new.table c.norm_in-in-Mod-2.new.table c.in_ok-left-in-Mod.left c.norm_in-in-Mod-2.ensures.kept c.in_ok-left-in-Mod.ensures.within ∙ c.in_ok-left-in-Mod.ensures.form)
