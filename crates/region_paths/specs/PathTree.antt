-- The tree of a region: the decisions of its first line, and below the end of each way through a line those of the next, down to the stops.
-- The paths of the region are the ways down this tree, those of a true side first.
use Rattle.std.specs.Prelude.{ℕ, zero, suc, Bool, true, false, Option, List, [], ◌∷◌, ◌++◌, map, length, if◌then◌else◌}
use Rattle.il_core.specs.Procedure.{Procedure}
use Rattle.il_core.specs.declared.line.Next.{Next}
use Rattle.il_core.specs.declared.line.Next.TheVariants as next
use Rattle.il_core.specs.declared.line.Stop.{Stop}
use Rattle.il_core.specs.declared.line.Stop.TheVariants as stop
use Rattle.control_flow.specs.declared.control.LoopInfo.{LoopInfo}
use Rattle.sym_terms.specs.Tree.{Tree}
use Rattle.sym_terms.specs.Comparison.{Comparison, comparison_under, denied}
use Rattle.sym_terms.specs.Identity.{own_values}
use Rattle.test_graph.specs.Decision.{Change, Decision, ask, done, decision_at}
use Rattle.test_graph.specs.Way.{changed}
use Rattle.region_paths.specs.Region.{is_head, leading_of}
use Rattle.region_paths.specs.PlainRow.{assigned_under, joined}
use Rattle.region_paths.specs.Listing.{RegionPath}

pub data PathTree : Type 0 where
  fork : Comparison → PathTree → PathTree → PathTree
  change : Option Change → PathTree → PathTree
  stops : Stop → PathTree

-- the decisions of a line, with a tree below the end of each way
abbrev pub grafted : (Next → PathTree) → Decision → PathTree
grafted below (ask c met unmet) = fork c (grafted below met) (grafted below unmet)
grafted below (done c next) = change c (below next)

-- a halt stops; at a head and at any other line stand these trees
abbrev pub below : List LoopInfo → (ℕ → PathTree) → (ℕ → PathTree) → Next → PathTree
below loops at_head at_line (next.Halted h) = stops (stop.Halted h)
below loops at_head at_line (next.At q) = if is_head loops q then at_head q else at_line q

-- the tree of line pc as far as n lines down
abbrev pub tree_to : Procedure → List LoopInfo → (ℕ → PathTree) → ℕ → ℕ → PathTree
tree_to p loops at_head zero pc = stops (stop.Head pc)
tree_to p loops at_head (suc n) pc = grafted (below loops at_head (λ q. tree_to p loops at_head n q)) (decision_at p pc)

-- a halt stops, and at any line stands this tree
abbrev pub passed : PathTree → Next → PathTree
passed rest (next.Halted h) = stops (stop.Halted h)
passed rest (next.At q) = rest

-- the tree of these lines, one after the other
abbrev pub leading_tree : Procedure → ℕ → List ℕ → PathTree
leading_tree p head [] = stops (stop.Head head)
leading_tree p head (a ∷ lines) = grafted (passed (leading_tree p head lines)) (decision_at p a)

-- the trees of the region that begins at line pc, deeper than any path of it goes: none comes to a line twice
unfoldable pub short_tree : Procedure → List LoopInfo → ℕ → PathTree
short_tree p loops pc = tree_to p loops (λ q. stops (stop.Head q)) (suc (length p.lines)) pc

unfoldable pub long_tree : Procedure → List LoopInfo → ℕ → PathTree
long_tree p loops pc = tree_to p loops (λ q. leading_tree p q (leading_of loops q)) (suc (length p.lines)) pc

-- the path that begins with these decisions, literals and assignments
abbrev pub begun : List Bool → List Comparison → List Tree → RegionPath → RegionPath
begun path literals assigned r = record { row = joined path literals assigned r.row; stop = r.stop }

-- the paths down a tree, before which the places have these terms
abbrev pub paths_down : PathTree → List Tree → List RegionPath
paths_down (fork c met unmet) terms =
    map (begun (true ∷ []) (comparison_under terms c ∷ []) []) (paths_down met terms)
    ++ map (begun (false ∷ []) (comparison_under terms (denied c) ∷ []) []) (paths_down unmet terms)
paths_down (change c rest) terms = map (begun [] [] (assigned_under terms c)) (paths_down rest (changed c terms))
paths_down (stops end) terms = record { row = record { path = []; literals = []; assigned = []; values = terms }; stop = end } ∷ []

unfoldable pub short_paths : Procedure → List LoopInfo → ℕ → List RegionPath
short_paths p loops pc = paths_down (short_tree p loops pc) (own_values (length p.places))

unfoldable pub long_paths : Procedure → List LoopInfo → ℕ → List RegionPath
long_paths p loops pc = paths_down (long_tree p loops pc) (own_values (length p.places))
