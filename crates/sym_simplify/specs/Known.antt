-- What is known of the normal terms of a pool: for some terms, the position of the normal term in a table.
use Rattle.std.specs.Prelude.{◌≡◌, ℕ, ◌<◌, Some, List, length, nat_eq}
use Rattle.std.specs.HashMap.{get, HashMap}
use Rattle.std.specs.declared.hash.FoldHasher.{FoldHasher}
use Rattle.std.specs.declared.hash.BuildHasherDefault.{BuildHasherDefault}
use Rattle.sym_terms.specs.declared.node.TermId.{TermId}
use Rattle.sym_terms.specs.declared.node.TermNode.{TermNode}
use Rattle.sym_terms.specs.Nodes.{tree_at}
use Rattle.sym_simplify.specs.declared.node.FormId.{FormId}
use Rattle.sym_simplify.specs.declared.node.FormNode.{FormNode}
use Rattle.sym_simplify.specs.Norm.{norm}
use Rattle.sym_simplify.specs.Table.{form_at}

abbrev pub Known : Type 0
Known = HashMap ℕ FormId (BuildHasherDefault FoldHasher)

pub record IsKnown (terms : List TermNode) (forms : List FormNode) (known : Known) : Type 0 where
  pub source : (id : TermId) (f : FormId) → get nat_eq known id.index ≡ Some f → id.index < length terms
  pub within : (id : TermId) (f : FormId) → get nat_eq known id.index ≡ Some f → f.index < length forms
  pub form : (id : TermId) (f : FormId) → get nat_eq known id.index ≡ Some f → form_at forms f ≡ norm (tree_at terms id)
