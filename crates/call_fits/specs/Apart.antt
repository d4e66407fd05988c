-- The variables to which the parameters of a call are handed back, from one argument on.
use Rattle.std.specs.Prelude.{ℕ, Bool, false, List, map, drop, Option, Some, None, filter_map, nat_eq}
use Rattle.std.specs.Cmp.Lexicographic.{pointwise}
use Rattle.std.specs.List.{list_any}
use Rattle.il_core.specs.Tree.{tree_of}
use Rattle.il_core.specs.declared.statement.RawExpr.{RawExpr}
use Rattle.call_rules.specs.declared.parameters.Parameter.{Parameter}
use Rattle.call_rules.specs.Callee.{pairings}
use Rattle.call_rules.specs.Calls.{back_to}

abbrev pub names_left : List Parameter → List RawExpr → ℕ → List (List ℕ)
names_left ps es k = filter_map back_to (pairings (drop k ps) (map tree_of (drop k es)))

abbrev pub is_same : List ℕ → Option (List ℕ) → Bool
is_same name None = false
is_same name (Some other) = pointwise nat_eq name other

abbrev pub stands_in : Option (List ℕ) → List (List ℕ) → Bool
stands_in None names = false
stands_in (Some name) names = list_any (pointwise nat_eq name) names
