use Rattle.std.proofs.Common.{◌≡◌, map, take}
use Rattle.sym_terms.specs.Nodes.{tree_at}
use Rattle.sym_simplify.specs.Norm.{norm}
use Rattle.sym_simplify.specs.Held.{form_of}
use Rattle.semantic_tables.proofs.prefix.values_of.Given as goal

-- the normal terms so far, over a store of the same terms
abbrev pub invariant-loop-id : goal.invariant-loop-id
invariant-loop-id l = record {
  terms : l.forms.terms ≡ l.fn.forms.terms;
  forms : map form_of l.values ≡ map (λ id. norm (tree_at l.fn.forms.terms id)) (take l.id-index l.env);
}
