use Rattle.std.proofs.Common.{◌≡◌, map, take}
use Rattle.sym_simplify.specs.Literal.{literal_form_of}
use Rattle.semantic_tables.specs.Row.{comparison_form}
use Rattle.semantic_tables.specs.Walk.{comparison_at}
use Rattle.semantic_tables.proofs.prefix.literals_of.Given as goal

-- the forms so far, over a store of the same terms
abbrev pub invariant-loop-side : goal.invariant-loop-side
invariant-loop-side l = record {
  terms : l.forms.terms ≡ l.fn.forms.terms;
  forms : map literal_form_of l.literals ≡ map (λ s. comparison_form (comparison_at l.fn.forms.terms s)) (take l.side-index l.sides);
}
