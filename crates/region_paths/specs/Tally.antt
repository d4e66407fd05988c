-- What the paths down a tree come to, path after path: how many they are, how many nodes their comparisons and assigned terms have together,
-- and the greatest weight and depth among these; each number stops at its cap, and past 16,384 paths there is no answer.
use Rattle.std.specs.Prelude.{ℕ, Bool, true, false, ◌+◌, ◌-◌, ◌*◌, ◌^◌, ◌≤◌, Option, Some, None, List, min, max, nat_lt, option_and_then, if◌then◌else◌}
use Rattle.std.specs.Option.{option_map}
use Rattle.sym_terms.specs.Tree.{Tree}
use Rattle.sym_terms.specs.Measure.{measured}
use Rattle.sym_terms.specs.Substitution.{substituted}
use Rattle.sym_terms.specs.Comparison.{Comparison, comparison_under, comparison_nodes, comparison_weight, comparison_depth}
use Rattle.sym_terms.specs.declared.measuring.TermMeasure.{TermMeasure}
use Rattle.test_graph.specs.Decision.{Change}
use Rattle.test_graph.specs.Way.{changed}
use Rattle.region_paths.specs.PathTree.{PathTree, fork, change, stops}
use Rattle.region_paths.specs.Size.{limit_passed}
use Rattle.region_paths.specs.declared.limit.Limit.{Limit}
use Rattle.region_paths.specs.declared.limit.Limit.TheVariants.{Rows}
use Rattle.region_paths.specs.declared.tally.Tally.{Tally}

-- the size of a comparison, capped as the measures of terms are
abbrev pub comparison_measured : Comparison → TermMeasure
comparison_measured c = record {
  nodes = min (comparison_nodes c) 2097153;
  weight = min (comparison_weight c) (2 ^ 100);
  depth = min (comparison_depth c) 1001;
}

pub record IsTally (a : Tally) : Type 0 where
  pub few_paths : a.paths ≤ 16384
  pub few_nodes : a.nodes ≤ 2097153

-- a tally to which more paths were added
pub record IsGrown (a b : Tally) : Type 0 where
  pub more : a.paths ≤ b.paths
  pub sound : IsTally b

abbrev pub empty : Tally
empty = record { paths = 0; nodes = 0; weight = 0; depth = 0 }

-- where there are too many paths, no tally
abbrev pub outcome : Bool → Tally → Option Tally
outcome true a = Some a
outcome false a = None

abbrev pub with_path : Tally → Option Tally
with_path a = if nat_lt a.paths 16384 then Some (record { paths = a.paths + 1; nodes = a.nodes; weight = a.weight; depth = a.depth }) else None

-- a size that is met on this many paths
abbrev pub with_size : TermMeasure → ℕ → Tally → Tally
with_size m count a = record { paths = a.paths; nodes = min (a.nodes + m.nodes * count) 2097153; weight = max a.weight m.weight; depth = max a.depth m.depth }

abbrev pub with_change : List Tree → Option Change → ℕ → Tally → Tally
with_change terms None count a = a
with_change terms (Some c) count a = with_size (measured (substituted terms c.term)) count a

-- the paths down a tree added to a tally; what stands before several paths is met on each of them
abbrev pub tallied : PathTree → List Tree → Tally → Option Tally
tallied (fork c met unmet) terms a =
    option_map (λ (b : Tally). with_size (comparison_measured (comparison_under terms c)) (b.paths - a.paths) b)
    (option_and_then (λ (b : Tally). tallied unmet terms b) (tallied met terms a))
tallied (change c rest) terms a = option_map (λ (b : Tally). with_change terms c (b.paths - a.paths) b) (tallied rest (changed c terms) a)
tallied (stops end) terms a = with_path a

-- the first limit that a tally passes
abbrev pub limit_of : Option Tally → Option Limit
limit_of None = Some Rows
limit_of (Some a) = limit_passed a.paths a.nodes a.weight a.depth
