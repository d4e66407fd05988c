-- The tree of a region has no more paths where it goes further than its lines, so the counts of a region's first line come to its paths.
use Rattle.std.proofs.Common.{◌≡◌, refl, sym, ap, ◌∙◌, subst, ℕ, suc, ◌+◌, ◌<◌, ◌≤◌, true, false, Some, List, [], ◌∷◌, map, length, slice_get, arith}
use Rattle.std.proofs.lemmas.List.{length-append, length-map}
use Rattle.il_core.specs.Procedure.{Procedure}
use Rattle.control_flow.specs.declared.control.LoopInfo.{LoopInfo}
use Rattle.sym_terms.specs.Tree.{Tree}
use Rattle.sym_terms.specs.Identity.{own_values}
use Rattle.sym_terms.specs.Comparison.{comparison_under, denied}
use Rattle.test_graph.specs.Decision.{decision_at}
use Rattle.test_graph.specs.Way.{changed}
use Rattle.test_graph.specs.Lowered.{Unfolds}
use Rattle.test_graph.specs.declared.graph.TestGraph.{TestGraph}
use Rattle.test_graph.specs.Laws.{WaysGoAlongArcs}
use Rattle.region_paths.specs.Region.{leading_of}
use Rattle.region_paths.specs.Chain.{IsLongChain}
use Rattle.region_paths.specs.PlainRow.{assigned_under}
use Rattle.region_paths.specs.Listing.{IsRowOf}
use Rattle.region_paths.specs.PathTree.{PathTree, fork, change, stops, begun, paths_down, tree_to, leading_tree, long_tree, long_paths}
use Rattle.region_paths.specs.Laws.{BeginsRegion, PathsAreListed}
use Rattle.region_paths.specs.Size.{IsPast}
use Rattle.region_paths.specs.declared.limit.Limit.TheVariants.{Rows}
use Rattle.region_paths.specs.Count.{leaves, capped, counted, CountAtLeast, CountAtMost}
use Rattle.region_paths.proofs.Orders.{one_listing}
use Rattle.region_paths.proofs.Listed.{tree_lists}
use Rattle.region_paths.proofs.Trees.{far_matches, long_matches}
use Rattle.region_paths.proofs.Totals.{many_rows}
use Rattle.region_paths.proofs.Rounds.{counted_far}

-- a tree has as many paths as leaves
pub length-paths : (t : PathTree) (terms : List Tree) → length (paths_down t terms) ≡ leaves t
length-paths (fork c met unmet) terms =
    length-append (map (begun (true ∷ []) (comparison_under terms c ∷ []) []) (paths_down met terms)) (map (begun (false ∷ []) (comparison_under terms (denied c) ∷ []) []) (paths_down unmet terms))
    ∙ omega (
      arith,
      length-map (paths_down met terms) (begun (true ∷ []) (comparison_under terms c ∷ []) []),
      length-map (paths_down unmet terms) (begun (false ∷ []) (comparison_under terms (denied c) ∷ []) []),
      length-paths met terms,
      length-paths unmet terms,
    )
length-paths (change c rest) terms =
    length-map (paths_down rest (changed c terms)) (begun [] [] (assigned_under terms c)) ∙ length-paths rest (changed c terms)
length-paths (stops end) terms = refl

-- further than its lines a region has the same paths
far_leaves : (p : Procedure) (loops : List LoopInfo) (pc n : ℕ) → suc (length p.lines) ≤ n → WaysGoAlongArcs → BeginsRegion p loops pc
    → leaves (tree_to p loops (λ q. leading_tree p q (leading_of loops q)) n pc) ≡ leaves (long_tree p loops pc)
far_leaves p loops pc n far arcs b =
    let t : PathTree = tree_to p loops (λ q. leading_tree p q (leading_of loops q)) n pc in
    let x = tree_lists t (IsLongChain p loops pc) (length p.places) (far_matches p loops pc n far arcs b) in
    let y = tree_lists (long_tree p loops pc) (IsLongChain p loops pc) (length p.places) (long_matches p loops pc arcs b) in
    sym (length-paths t (own_values (length p.places)))
    ∙ ap length (one_listing (IsRowOf (IsLongChain p loops pc) (own_values (length p.places))) (paths_down t (own_values (length p.places))) (paths_down (long_tree p loops pc) (own_values (length p.places))) x y)
    ∙ length-paths (long_tree p loops pc) (own_values (length p.places))

long_counted : (p : Procedure) (loops : List LoopInfo) (pc : ℕ) → counted p loops (suc (length p.lines)) (decision_at p pc) ≡ capped (leaves (long_tree p loops pc))
unfolding long_tree
long_counted p loops pc = refl

-- no count of the first line is above its paths
counted_long : (p : Procedure) (loops : List LoopInfo) (pc n : ℕ) → WaysGoAlongArcs → BeginsRegion p loops pc → counted p loops n (decision_at p pc) ≤ capped (leaves (long_tree p loops pc))
counted_long p loops pc n arcs b =
    let m : ℕ = n + length p.lines in
    let far = far_leaves p loops pc (suc m) (omega arith) arcs b in
    let up = counted_far p loops (suc (length p.lines)) n (decision_at p pc) in
    let e : suc (length p.lines) + n ≡ suc m = omega arith in
    let top : counted p loops (suc m) (decision_at p pc) ≡ capped (leaves (long_tree p loops pc)) = ap capped far in
    omega (arith, top, subst (λ (k : ℕ). counted p loops n (decision_at p pc) ≤ counted p loops k (decision_at p pc)) e up)

-- a count between the paths of all lines and those of some number of lines is that of the region
pub settled : (p : Procedure) (loops : List LoopInfo) (pc n c : ℕ) → WaysGoAlongArcs → BeginsRegion p loops pc → counted p loops (suc (length p.lines)) (decision_at p pc) ≤ c
    → c ≤ counted p loops n (decision_at p pc) → c ≡ capped (leaves (long_tree p loops pc))
settled p loops pc n c arcs b low high = omega (arith, long_counted p loops pc, low, high, counted_long p loops pc n arcs b)

-- too many paths are the first limit
pub past_rows : (p : Procedure) (loops : List LoopInfo) (pc c : ℕ) → PathsAreListed → BeginsRegion p loops pc → c ≡ capped (leaves (long_tree p loops pc)) → 16384 < c
    → IsPast p loops pc (Some Rows)
unfolding long_paths
past_rows p loops pc c listed b e many =
    let size : 16384 < length (long_paths p loops pc) = omega (arith, length-paths (long_tree p loops pc) (own_values (length p.places)), e, many) in
    (long_paths p loops pc, (listed p loops pc b).long, many_rows (long_paths p loops pc) size)

-- the count of the first node of a region's first line
pub first_settled : (p : Procedure) (loops : List LoopInfo) (g : TestGraph) (pc first m c : ℕ) (counts : List ℕ) → WaysGoAlongArcs → BeginsRegion p loops pc
    → Unfolds g.nodes g.entries first (decision_at p pc) → CountAtLeast p loops g (suc (length p.lines)) 0 counts → CountAtMost p loops g m counts → slice_get counts first ≡ Some c
    → c ≡ capped (leaves (long_tree p loops pc))
first_settled p loops g pc first m c counts arcs b u least most e =
    settled p loops pc m c arcs b (least.each first (decision_at p pc) c u e) (most.each first (decision_at p pc) c u e)
