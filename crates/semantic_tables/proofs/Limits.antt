-- Down the trees of a region that passes no limit each comparison and each assigned term is small.
use Rattle.std.proofs.Common.{◌≡◌, inl, inr, refl, sym, ap, subst, ℕ, zero, suc, ◌^◌, ◌<◌, ◌≤◌, Bool, true, false, Option, Some, None, List, [], ◌∷◌, map, length, arith}
use Rattle.std.specs.Prelude.{max, nat_lt, nat_le, sum_by, if◌then◌else◌}
use Rattle.std.proofs.lemmas.Bool.{ltb-false, leb-false}
use Rattle.il_core.specs.LineGraph.{IsIn}
use Rattle.il_core.specs.Procedure.{Procedure}
use Rattle.il_core.specs.declared.line.Next.{Next}
use Rattle.il_core.specs.declared.line.Next.TheVariants as next
use Rattle.il_core.specs.declared.line.Stop.TheVariants as stop
use Rattle.control_flow.specs.declared.control.LoopInfo.{LoopInfo}
use Rattle.sym_terms.specs.Tree.{Tree}
use Rattle.sym_terms.specs.Measure.{weight, depth}
use Rattle.sym_terms.specs.Identity.{own_values}
use Rattle.sym_terms.specs.Substitution.{substituted}
use Rattle.sym_terms.specs.Comparison.{Comparison, comparison_under, denied, comparison_weight, comparison_depth}
use Rattle.test_graph.specs.Decision.{Change, Decision, ask, done, decision_at}
use Rattle.test_graph.specs.Way.{changed}
use Rattle.region_paths.specs.Region.{is_head}
use Rattle.region_paths.specs.PlainRow.{assigned_under}
use Rattle.region_paths.specs.Listing.{RegionPath}
use Rattle.region_paths.specs.Laws.{BeginsRegion, PathsAreListed, OneListing}
use Rattle.region_paths.specs.PathTree.{PathTree, fork, change, stops, grafted, below, tree_to, begun, paths_down, long_tree, long_paths}
use Rattle.region_paths.specs.Size.{greatest_by, path_nodes, path_weight, path_depth, limit_passed, IsPast}
use Rattle.region_paths.specs.declared.limit.Limit.TheVariants.{Rows, Nodes, Weight, Depth}
use Rattle.path_inputs.proofs.Members.{in-left, in-right}
use Rattle.semantic_tables.specs.Walk.{head_tree, behind, AssignsSmall, StaysSmall}
use Rattle.semantic_tables.specs.declared.segment.Segment.TheVariants.{Region}

abbrev IsSmallPath : RegionPath → Type 0
IsSmallPath r = (path_weight r < 2 ^ 100) × (path_depth r ≤ 1000)

in-map : {A B : Type 0} (f : A → B) (xs : List A) (x : A) → IsIn xs x → IsIn (map f xs) (f x)
in-map f [] x h = absurd h
in-map f (y ∷ xs) x (inl e) = inl (ap f e)
in-map f (y ∷ xs) x (inr i) = inr (in-map f xs x i)

-- a tree has a path
some_path : (t : PathTree) (terms : List Tree) → (r : RegionPath) × IsIn (paths_down t terms) r
some_path (fork c met unmet) terms =
    let p = some_path met terms in (
      begun (true ∷ []) (comparison_under terms c ∷ []) [] p.0,
      in-left (map (begun (true ∷ []) (comparison_under terms c ∷ []) []) (paths_down met terms)) (map (begun (false ∷ []) (comparison_under terms (denied c) ∷ []) []) (paths_down unmet terms)) _
          (in-map (begun (true ∷ []) (comparison_under terms c ∷ []) []) (paths_down met terms) p.0 p.1),
    )
some_path (change c rest) terms =
    let p = some_path rest (changed c terms) in
    (begun [] [] (assigned_under terms c) p.0, in-map (begun [] [] (assigned_under terms c)) (paths_down rest (changed c terms)) p.0 p.1)
some_path (stops end) terms = (_, inl refl)

less_first : (a b c k : ℕ) → max (max a b) c < k → a < k
less_first a b c k h = omega (arith, h)

less_rest : (a b c k : ℕ) → max (max a b) c < k → max b c < k
less_rest a b c k h = omega (arith, h)

least_first : (a b c k : ℕ) → max (max a b) c ≤ k → a ≤ k
least_first a b c k h = omega (arith, h)

least_rest : (a b c k : ℕ) → max (max a b) c ≤ k → max b c ≤ k
least_rest a b c k h = omega (arith, h)

less_other : (a b c k : ℕ) → max a (max b c) < k → (b < k) × (max a c < k)
less_other a b c k h = (omega (arith, h), omega (arith, h))

least_other : (a b c k : ℕ) → max a (max b c) ≤ k → (b ≤ k) × (max a c ≤ k)
least_other a b c k h = (omega (arith, h), omega (arith, h))

sides_depth : (a b k : ℕ) → max a b ≤ k → (a ≤ k) × (b ≤ k)
sides_depth a b k h = (omega (arith, h), omega (arith, h))

-- the comparison at the beginning of a small path is small, and so is what follows
small_begun : (b : Bool) (c : Comparison) (r : RegionPath) → IsSmallPath (begun (b ∷ []) (c ∷ []) [] r) → (comparison_weight c < 2 ^ 100) × (comparison_depth c ≤ 1000) × IsSmallPath r
small_begun b c r h = (
  less_first (comparison_weight c) (greatest_by comparison_weight r.row.literals) (greatest_by weight r.row.assigned) (2 ^ 100) h.0,
  least_first (comparison_depth c) (greatest_by comparison_depth r.row.literals) (greatest_by depth r.row.assigned) 1000 h.1,
  (
    less_rest (comparison_weight c) (greatest_by comparison_weight r.row.literals) (greatest_by weight r.row.assigned) (2 ^ 100) h.0,
    least_rest (comparison_depth c) (greatest_by comparison_depth r.row.literals) (greatest_by depth r.row.assigned) 1000 h.1,
  ),
)

small_behind : (terms : List Tree) (c : Option Change) (r : RegionPath) → IsSmallPath (begun [] [] (assigned_under terms c) r) → AssignsSmall terms c × IsSmallPath r
small_behind terms None r h = (tt, h)
small_behind terms (Some c) r h =
    let w = less_other (greatest_by comparison_weight r.row.literals) (weight (substituted terms c.term)) (greatest_by weight r.row.assigned) (2 ^ 100) h.0 in
    let d = least_other (greatest_by comparison_depth r.row.literals) (depth (substituted terms c.term)) (greatest_by depth r.row.assigned) 1000 h.1 in
    ((w.0, d.0), (w.1, d.1))

small_down : (t : PathTree) (terms : List Tree) → ((r : RegionPath) → IsIn (paths_down t terms) r → IsSmallPath r) → StaysSmall t terms
small_down (fork c met unmet) terms h =
    let on = map (begun (true ∷ []) (comparison_under terms c ∷ []) []) (paths_down met terms) in
    let off = map (begun (false ∷ []) (comparison_under terms (denied c) ∷ []) []) (paths_down unmet terms) in
    let met_small : (r : RegionPath) → IsIn (paths_down met terms) r → (comparison_weight (comparison_under terms c) < 2 ^ 100) × (comparison_depth (comparison_under terms c) ≤ 1000) × IsSmallPath r =
    λ r i. small_begun true (comparison_under terms c) r (h _ (in-left on off _ (in-map (begun (true ∷ []) (comparison_under terms c ∷ []) []) (paths_down met terms) r i))) in
    let unmet_small : (r : RegionPath) → IsIn (paths_down unmet terms) r → IsSmallPath r =
    λ r i. (small_begun false (comparison_under terms (denied c)) r (h _ (in-right on off _ (in-map (begun (false ∷ []) (comparison_under terms (denied c) ∷ []) []) (paths_down unmet terms) r i)))).2 in
    let p = some_path met terms in
    let first = met_small p.0 p.1 in
    let d = sides_depth (depth (substituted terms c.left)) (depth (substituted terms c.right)) 1000 first.1 in
    ((first.0, d.0, d.1), small_down met terms (λ r i. (met_small r i).2), small_down unmet terms unmet_small)
small_down (change c rest) terms h =
    let small : (r : RegionPath) → IsIn (paths_down rest (changed c terms)) r → AssignsSmall terms c × IsSmallPath r =
    λ r i. small_behind terms c r (h _ (in-map (begun [] [] (assigned_under terms c)) (paths_down rest (changed c terms)) r i)) in
    let p = some_path rest (changed c terms) in
    ((small p.0 p.1).0, small_down rest (changed c terms) (λ r i. (small r i).1))
small_down (stops end) terms h = tt

greatest_less : (f : RegionPath → ℕ) (rows : List RegionPath) (k : ℕ) (r : RegionPath) → greatest_by f rows < k → IsIn rows r → f r < k
greatest_less f [] k r h i = absurd i
greatest_less f (q ∷ rows) k r h (inl e) = subst (λ (x : RegionPath). f x < k) e (omega (arith, h))
greatest_less f (q ∷ rows) k r h (inr i) = greatest_less f rows k r (omega (arith, h)) i

greatest_least : (f : RegionPath → ℕ) (rows : List RegionPath) (k : ℕ) (r : RegionPath) → greatest_by f rows ≤ k → IsIn rows r → f r ≤ k
greatest_least f [] k r h i = absurd i
greatest_least f (q ∷ rows) k r h (inl e) = subst (λ (x : RegionPath). f x ≤ k) e (omega (arith, h))
greatest_least f (q ∷ rows) k r h (inr i) = greatest_least f rows k r (omega (arith, h)) i

-- what is past no limit is small
within_limits : (a b w d : ℕ) → limit_passed a b w d ≡ None → (w < 2 ^ 100) × (d ≤ 1000)
within_limits a b w d e = by_rows (nat_lt 16384 a) e
  where
    by_depth : (x : Bool) → nat_lt 1000 d ≡ x → nat_le (2 ^ 100) w ≡ false → (if x then Some Depth else None) ≡ None → (w < 2 ^ 100) × (d ≤ 1000)
    by_depth true f g h = absurd (cc)
    by_depth false f g h = (leb-false (2 ^ 100) w g, ltb-false 1000 d f)

    by_weight : (x : Bool) → nat_le (2 ^ 100) w ≡ x → (if x then Some Weight else (if nat_lt 1000 d then Some Depth else None)) ≡ None → (w < 2 ^ 100) × (d ≤ 1000)
    by_weight true g h = absurd (cc)
    by_weight false g h = by_depth (nat_lt 1000 d) refl g h

    by_nodes : (x : Bool) → (if x then Some Nodes else (if nat_le (2 ^ 100) w then Some Weight else (if nat_lt 1000 d then Some Depth else None))) ≡ None → (w < 2 ^ 100) × (d ≤ 1000)
    by_nodes true h = absurd (cc)
    by_nodes false h = by_weight (nat_le (2 ^ 100) w) refl h

    by_rows : (x : Bool) → (if x then Some Rows else (if nat_lt 2097152 b then Some Nodes else (if nat_le (2 ^ 100) w then Some Weight else (if nat_lt 1000 d then Some Depth else None)))) ≡ None
        → (w < 2 ^ 100) × (d ≤ 1000)
    by_rows true h = absurd (cc)
    by_rows false h = by_nodes (nat_lt 2097152 b) h

small_long : (p : Procedure) (loops : List LoopInfo) (pc : ℕ) → PathsAreListed → OneListing → BeginsRegion p loops pc → IsPast p loops pc None → StaysSmall (long_tree p loops pc) (own_values (length p.places))
unfolding long_paths
small_long p loops pc listed one b h =
    let same : h.0 ≡ long_paths p loops pc = (one p loops pc).long h.0 (long_paths p loops pc) h.1 (listed p loops pc b).long in
    let k = within_limits (length h.0) (sum_by path_nodes h.0) (greatest_by path_weight h.0) (greatest_by path_depth h.0) h.2 in
    small_down (long_tree p loops pc) (own_values (length p.places))
    (λ r i. let j : IsIn h.0 r = subst (λ m. IsIn m r) (sym same) i in
    (greatest_less path_weight h.0 (2 ^ 100) r k.0 j, greatest_least path_depth h.0 1000 r k.1 j))

small_grafted : (x y : Next → PathTree) (d : Decision) (terms : List Tree) → ((n : Next) (ts : List Tree) → StaysSmall (x n) ts → StaysSmall (y n) ts) → StaysSmall (grafted x d) terms
    → StaysSmall (grafted y d) terms
small_grafted x y (ask c met unmet) terms f h = (h.0, small_grafted x y met terms f h.1, small_grafted x y unmet terms f h.2)
small_grafted x y (done c to) terms f h = (h.0, f to (changed c terms) h.1)

small_below : (loops : List LoopInfo) (a : ℕ → PathTree) (x y : ℕ → PathTree) (n : Next) (terms : List Tree) → ((q : ℕ) (ts : List Tree) → StaysSmall (x q) ts → StaysSmall (y q) ts)
    → StaysSmall (below loops a x n) terms → StaysSmall (below loops (λ q. stops (stop.Head q)) y n) terms
small_below loops a x y (next.Halted h) terms f s = s
small_below loops a x y (next.At q) terms f s = by_test (is_head loops q) s
  where
    by_test : (b : Bool) → StaysSmall (if b then a q else x q) terms → StaysSmall (if b then stops (stop.Head q) else y q) terms
    by_test true k = tt
    by_test false k = f q terms k

small_tree : (p : Procedure) (loops : List LoopInfo) (n pc : ℕ) (terms : List Tree) → StaysSmall (tree_to p loops (head_tree p loops true) n pc) terms
    → StaysSmall (tree_to p loops (head_tree p loops false) n pc) terms
small_tree p loops zero pc terms h = tt
small_tree p loops (suc n) pc terms h =
    small_grafted (below loops (head_tree p loops true) (λ q. tree_to p loops (head_tree p loops true) n q)) (below loops (head_tree p loops false) (λ q. tree_to p loops (head_tree p loops false) n q))
    (decision_at p pc) terms
    (λ to ts k. small_below loops (head_tree p loops true) (λ q. tree_to p loops (head_tree p loops true) n q) (λ q. tree_to p loops (head_tree p loops false) n q) to ts
    (λ q us l. small_tree p loops n q us l) k) h

-- the tree of the long paths, and that of the paths, where no limit is passed
pub small_region : (p : Procedure) (loops : List LoopInfo) (pc : ℕ) (long : Bool) → PathsAreListed → OneListing → BeginsRegion p loops pc → IsPast p loops pc None
    → StaysSmall (grafted (behind p loops long (Region (length p.lines))) (decision_at p pc)) (own_values (length p.places))
unfolding long_tree
small_region p loops pc true listed one b h = small_long p loops pc listed one b h
small_region p loops pc false listed one b h = small_tree p loops (suc (length p.lines)) pc (own_values (length p.places)) (small_long p loops pc listed one b h)
