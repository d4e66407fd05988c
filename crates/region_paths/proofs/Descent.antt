-- The paths down a tree stand in order, and each state takes exactly one of them.
use Rattle.std.proofs.Common.{◌≡◌, inl, inr, refl, ◌∙◌, subst, Bool, true, false, List, [], ◌∷◌, ◌++◌, map}
use Rattle.il_core.specs.LineGraph.{IsIn}
use Rattle.flow_graph.proofs.Members.{IsIn-append_cases, IsIn-from_map}
use Rattle.sym_terms.specs.Tree.{Tree}
use Rattle.sym_terms.specs.Comparison.{Comparison, comparison_under, denied}
use Rattle.test_graph.specs.Way.{changed}
use Rattle.region_paths.specs.PlainRow.{assigned_under}
use Rattle.region_paths.specs.Listing.{RegionPath, is_before, Ascend}
use Rattle.region_paths.specs.PathTree.{PathTree, fork, change, stops, begun, paths_down}

-- paths that begin with the same decisions stand in the order of the others
is_before-begun : (path : List Bool) (a b : List Bool) → is_before (path ++ a) (path ++ b) ≡ is_before a b
is_before-begun [] a b = refl
is_before-begun (true ∷ path) a b = is_before-begun path a b
is_before-begun (false ∷ path) a b = is_before-begun path a b

begun-ascend : (path : List Bool) (literals : List Comparison) (assigned : List Tree) (rows : List RegionPath) → Ascend rows → Ascend (map (begun path literals assigned) rows)
begun-ascend path literals assigned [] a = tt
begun-ascend path literals assigned (r ∷ rows) a = (first, begun-ascend path literals assigned rows a.1)
  where
    first : (q : RegionPath) → IsIn (map (begun path literals assigned) rows) q → is_before (path ++ r.row.path) q.row.path ≡ true
    first q i =
        let t = IsIn-from_map (begun path literals assigned) rows q i in
        subst (λ (x : RegionPath). is_before (path ++ r.row.path) x.row.path ≡ true) t.2 (is_before-begun path r.row.path t.0.row.path ∙ a.0 t.0 t.1)

-- two lists, of which each member of the first stands before each of the second
ascend-append : (a b : List RegionPath) → Ascend a → Ascend b → ((r q : RegionPath) → IsIn a r → IsIn b q → is_before r.row.path q.row.path ≡ true) → Ascend (a ++ b)
ascend-append [] b x y h = y
ascend-append (r ∷ a) b x y h =
    (λ q i. elim (IsIn-append_cases a b q i) [ inl l ↦ x.0 q l | inr m ↦ h r q (inl refl) m ], ascend-append a b x.1 y (λ s q i j. h s q (inr i) j))

-- each path of a true side stands before each of a false side
true_before : (c d : List Comparison) (a b : List RegionPath) (r q : RegionPath) → IsIn (map (begun (true ∷ []) c []) a) r → IsIn (map (begun (false ∷ []) d []) b) q
    → is_before r.row.path q.row.path ≡ true
true_before c d a b r q i j =
    let s = IsIn-from_map (begun (true ∷ []) c []) a r i in
    let t = IsIn-from_map (begun (false ∷ []) d []) b q j in
    subst (λ (x : RegionPath). is_before x.row.path q.row.path ≡ true) s.2
    (subst (λ (x : RegionPath). is_before (true ∷ s.0.row.path) x.row.path ≡ true) t.2 refl)

pub paths_down-ascend : (t : PathTree) (terms : List Tree) → Ascend (paths_down t terms)
paths_down-ascend (fork c met unmet) terms =
    ascend-append _ _
    (begun-ascend (true ∷ []) (comparison_under terms c ∷ []) [] (paths_down met terms) (paths_down-ascend met terms))
    (begun-ascend (false ∷ []) (comparison_under terms (denied c) ∷ []) [] (paths_down unmet terms) (paths_down-ascend unmet terms))
    (true_before (comparison_under terms c ∷ []) (comparison_under terms (denied c) ∷ []) (paths_down met terms) (paths_down unmet terms))
paths_down-ascend (change c rest) terms = begun-ascend [] [] (assigned_under terms c) (paths_down rest (changed c terms)) (paths_down-ascend rest (changed c terms))
paths_down-ascend (stops end) terms = (λ q i. absurd i, tt)
