-- A pool of terms, with a table of normal terms.
use Rattle.std.specs.Prelude.{List}
use Rattle.sym_terms.specs.declared.node.TermNode.{TermNode}
use Rattle.sym_simplify.specs.declared.node.FormNode.{FormNode}

pub record Store : Type 0 where
  pub terms : List TermNode
  pub forms : List FormNode
