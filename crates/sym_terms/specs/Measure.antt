-- The size of a term: its nodes, its weight and its depth, each capped.
use Rattle.std.specs.Prelude.{ℕ, ℤ, pos, ◌+◌, ◌*◌, ◌^◌, ◌≤◌, List, max, min, slice_index_or, unsigned_abs}
use Rattle.sym_terms.specs.declared.measuring.TermMeasure.{TermMeasure}
use Rattle.sym_terms.specs.Tree.{Tree, number, variable, sum, product, quotient, remainder}

abbrev pub nodes : Tree → ℕ
nodes (number n) = 1
nodes (variable p) = 1
nodes (sum a b) = 1 + nodes a + nodes b
nodes (product a b) = 1 + nodes a + nodes b
nodes (quotient a b) = 1 + nodes a + nodes b
nodes (remainder a b) = 1 + nodes a + nodes b

abbrev pub weight : Tree → ℕ
weight (number n) = max (unsigned_abs n) 1
weight (variable p) = 1
weight (sum a b) = weight a + weight b
weight (product a b) = weight a * weight b
weight (quotient a b) = weight a + weight b
weight (remainder a b) = weight a + weight b

abbrev pub depth : Tree → ℕ
depth (number n) = 1
depth (variable p) = 1
depth (sum a b) = 1 + max (depth a) (depth b)
depth (product a b) = 1 + max (depth a) (depth b)
depth (quotient a b) = 1 + max (depth a) (depth b)
depth (remainder a b) = 1 + max (depth a) (depth b)

abbrev pub measured : Tree → TermMeasure
measured t = record { nodes = min (nodes t) 2097153; weight = min (weight t) (2 ^ 100); depth = min (depth t) 1001 }

-- each number is from 1 to its cap
pub record IsCapped (m : TermMeasure) : Type 0 where
  pub some_nodes : 1 ≤ m.nodes
  pub few_nodes : m.nodes ≤ 2097153
  pub some_weight : 1 ≤ m.weight
  pub low_weight : m.weight ≤ 2 ^ 100
  pub some_depth : 1 ≤ m.depth
  pub low_depth : m.depth ≤ 1001

-- the measures of a number, of a product, and of a sum, a quotient or a remainder, from those of the sides
abbrev pub number_measure : ℤ → TermMeasure
number_measure n = record { nodes = 1; weight = min (max (unsigned_abs n) 1) (2 ^ 100); depth = 1 }

abbrev pub sum_measure : TermMeasure → TermMeasure → TermMeasure
sum_measure a b = record { nodes = min (1 + a.nodes + b.nodes) 2097153; weight = min (a.weight + b.weight) (2 ^ 100); depth = min (1 + max a.depth b.depth) 1001 }

abbrev pub product_measure : TermMeasure → TermMeasure → TermMeasure
product_measure a b = record { nodes = min (1 + a.nodes + b.nodes) 2097153; weight = min (a.weight * b.weight) (2 ^ 100); depth = min (1 + max a.depth b.depth) 1001 }

-- the measure of a term whose places have these measures
abbrev pub measure_of : List TermMeasure → Tree → TermMeasure
measure_of env (number n) = number_measure n
measure_of env (variable p) = slice_index_or env p (number_measure (pos 0))
measure_of env (sum a b) = sum_measure (measure_of env a) (measure_of env b)
measure_of env (product a b) = product_measure (measure_of env a) (measure_of env b)
measure_of env (quotient a b) = sum_measure (measure_of env a) (measure_of env b)
measure_of env (remainder a b) = sum_measure (measure_of env a) (measure_of env b)
