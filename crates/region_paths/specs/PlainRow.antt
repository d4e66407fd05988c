-- The plain row of a path: its decisions, its literals and the terms that it assigns, in order, and the value of each place at its end, by
-- plain substitution and without simplification.
use Rattle.std.specs.Prelude.{Bool, Option, Some, None, List, [], ◌∷◌, ◌++◌, map}
use Rattle.sym_terms.specs.Tree.{Tree}
use Rattle.sym_terms.specs.Substitution.{substituted}
use Rattle.sym_terms.specs.Comparison.{Comparison, comparison_under}
use Rattle.test_graph.specs.Decision.{Change}
use Rattle.test_graph.specs.Way.{Way, changed}

pub record PlainRow : Type 0 where
  pub path : List Bool
  pub literals : List Comparison
  pub assigned : List Tree
  pub values : List Tree

-- the term that a change assigns, over the places of the state in which these terms stand
abbrev pub assigned_under : List Tree → Option Change → List Tree
assigned_under terms None = []
assigned_under terms (Some c) = substituted terms c.term ∷ []

-- the row of a way followed by those of a row
abbrev pub joined : List Bool → List Comparison → List Tree → PlainRow → PlainRow
joined path literals assigned row = record {
  path = path ++ row.path;
  literals = literals ++ row.literals;
  assigned = assigned ++ row.assigned;
  values = row.values;
}

-- the row of a list of ways before which the places have these terms
abbrev pub along : List Way → List Tree → PlainRow
along [] terms = record { path = []; literals = []; assigned = []; values = terms }
along (w ∷ ws) terms = joined w.path (map (comparison_under terms) w.literals) (assigned_under terms w.change) (along ws (changed w.change terms))
