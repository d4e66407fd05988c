-- A comparison of two terms, without the pointers that hold them.
use Rattle.std.specs.Prelude.{ℕ, ◌+◌, Bool, List, max}
use Rattle.il_core.specs.Evaluation.{State, compares}
use Rattle.il_core.specs.declared.operator.Relation.{Relation}
use Rattle.il_core.specs.declared.operator.Relation.TheVariants.{Eq, Ne, Lt, Le, Gt, Ge}
use Rattle.sym_terms.specs.Tree.{Tree, tree_of}
use Rattle.sym_terms.specs.Value.{value_of}
use Rattle.sym_terms.specs.Substitution.{substituted, HasPlacesBelow}
use Rattle.sym_terms.specs.Measure.{nodes, weight, depth}
use Rattle.sym_terms.specs.declared.term.Literal.{Literal}

pub record Comparison : Type 0 where
  pub left : Tree
  pub relation : Relation
  pub right : Tree

-- the comparison that a `Literal` holds
abbrev pub comparison_of : Literal → Comparison
comparison_of l = record { left = tree_of l.left; relation = l.relation; right = tree_of l.right }

-- whether the values of the two sides in a state compare so
abbrev pub comparison_holds : Comparison → State → Bool
comparison_holds c s = compares c.relation (value_of c.left s) (value_of c.right s)

-- the relation that holds of two numbers exactly where the given one does not
abbrev pub denied_relation : Relation → Relation
denied_relation Eq = Ne
denied_relation Ne = Eq
denied_relation Lt = Ge
denied_relation Le = Gt
denied_relation Gt = Le
denied_relation Ge = Lt

-- the comparison of the same sides that holds exactly where the given one does not
abbrev pub denied : Comparison → Comparison
denied c = record { left = c.left; relation = denied_relation c.relation; right = c.right }

-- the comparison in which each place is replaced by its term
abbrev pub comparison_under : List Tree → Comparison → Comparison
comparison_under terms c = record { left = substituted terms c.left; relation = c.relation; right = substituted terms c.right }

-- each place of both sides is below n
abbrev pub ComparesPlacesBelow : ℕ → Comparison → Type 0
ComparesPlacesBelow n c = HasPlacesBelow n c.left × HasPlacesBelow n c.right

-- the size of a comparison: the nodes and the weights of its sides add up, and its depth is that of the deeper side
abbrev pub comparison_nodes : Comparison → ℕ
comparison_nodes c = nodes c.left + nodes c.right

abbrev pub comparison_weight : Comparison → ℕ
comparison_weight c = weight c.left + weight c.right

abbrev pub comparison_depth : Comparison → ℕ
comparison_depth c = max (depth c.left) (depth c.right)
