use Rattle.std.proofs.Common.{◌≡◌, ◌∙◌, ap, sym, subst, ◌<◌, ◌≤◌, ◌^◌, List, map, length, slice_get, Some, arith}
use Rattle.std.proofs.lemmas.List.{take_all}
use Rattle.std.proofs.lemmas.Option.{slice_get-get_or}
use Rattle.sym_terms.specs.Measure.{weight, depth}
use Rattle.sym_terms.specs.Nodes.{tree_at}
use Rattle.sym_terms.specs.declared.node.TermId.{TermId}
use Rattle.sym_terms.specs.declared.node.TermNode.{TermNode}
use Rattle.sym_simplify.specs.Norm.{norm}
use Rattle.std.specs.Prelude.{slice_index_or}
use Rattle.semantic_tables.proofs.Environments.{env_at, normal_terms}
use Rattle.semantic_tables.proofs.prefix.values_of.Goals as goal

pub norm-requires-clause-weight : goal.norm-requires-clause-weight
norm-requires-clause-weight c =
    let none : TermId = record { index = 0 } in
    let id = slice_index_or c.args.env.now c.loop-id.id-index none in
    let there : slice_get c.args.env.now c.loop-id.id-index ≡ Some id = slice_get-get_or c.args.env.now c.loop-id.id-index none (omega (arith, c.loop-id-test.true, c.loop-id.auto)) in
    let small = env_at (length c.args.env.now) c.args.forms.now.terms c.args.env.now c.loop-id.id-index id c.requires there in
    subst (λ (ts : List TermNode). weight (tree_at ts id) < 2 ^ 100) (sym c.loop-id.invariant.terms) small.1.0

pub norm-requires-clause-depth : goal.norm-requires-clause-depth
norm-requires-clause-depth c =
    let none : TermId = record { index = 0 } in
    let id = slice_index_or c.args.env.now c.loop-id.id-index none in
    let there : slice_get c.args.env.now c.loop-id.id-index ≡ Some id = slice_get-get_or c.args.env.now c.loop-id.id-index none (omega (arith, c.loop-id-test.true, c.loop-id.auto)) in
    let small = env_at (length c.args.env.now) c.args.forms.now.terms c.args.env.now c.loop-id.id-index id c.requires there in
    subst (λ (ts : List TermNode). depth (tree_at ts id) ≤ 1000) (sym c.loop-id.invariant.terms) small.1.1

pub returns-clause-values : goal.returns-clause-values
returns-clause-values c =
    c.loop-id.invariant.forms
    ∙ ap (map (λ (id : TermId). norm (tree_at c.args.forms.now.terms id))) (take_all c.loop-id.id-index c.args.env.now (omega (arith, c.loop-id-test.false, c.loop-id.auto)))
    ∙ normal_terms c.args.forms.now.terms c.args.env.now
