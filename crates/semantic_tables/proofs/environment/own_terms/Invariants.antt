use Rattle.std.proofs.Common.{◌≡◌}
use Rattle.sym_terms.specs.Identity.{own_values}
use Rattle.sym_terms.specs.Nodes.{terms_of, AreWithin}
use Rattle.semantic_tables.proofs.environment.own_terms.Given as goal

-- the places so far
abbrev pub invariant-loop-place : goal.invariant-loop-place
invariant-loop-place l = record {
  within : AreWithin l.forms.terms l.env.items;
  own : terms_of l.forms.terms l.env.items ≡ own_values l.place;
}
