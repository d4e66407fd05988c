-- A tree has exactly the rows of some chains: the decisions of a line with trees below have the rows of the line's ways, each followed by
-- what stands below its end.
use Rattle.std.proofs.Common.{◌≡◌, inl, inr, refl, sym, ap, ◌∙◌, subst, Bool, true, false, List, [], ◌∷◌, map}
use Rattle.std.specs.Prelude.{◌↔◌, Option}
use Rattle.il_core.specs.LineGraph.{IsIn}
use Rattle.il_core.specs.declared.line.Next.{Next}
use Rattle.il_core.specs.declared.line.Stop.{Stop}
use Rattle.flow_graph.proofs.Members.{IsIn-append_left, IsIn-append_right, IsIn-append_cases, IsIn-map, IsIn-from_map}
use Rattle.sym_terms.specs.Tree.{Tree}
use Rattle.sym_terms.specs.Comparison.{Comparison, comparison_under, denied}
use Rattle.test_graph.specs.Decision.{Change, Decision, ask, done}
use Rattle.test_graph.specs.Way.{Way, ways_of, decided_true, decided_false, changed}
use Rattle.region_paths.specs.Chain.{StopsAt}
use Rattle.region_paths.specs.PlainRow.{PlainRow, along, joined, assigned_under}
use Rattle.region_paths.specs.Listing.{RegionPath, IsRowOf}
use Rattle.region_paths.specs.PathTree.{PathTree, fork, change, stops, grafted, begun, paths_down}

-- the paths down the tree are the rows of the chains
abbrev pub Matches : PathTree → (List Way → Stop → Type 0) → Type 0
Matches t Chain = (terms : List Tree) (r : RegionPath) → IsIn (paths_down t terms) r ↔ IsRowOf Chain terms r

-- a chain that begins with a way of these decisions and goes on as its end says
abbrev pub BeginsIn : Decision → (Next → List Way → Stop → Type 0) → List Way → Stop → Type 0
BeginsIn d C [] end = ⊥
BeginsIn d C (w ∷ ws) end = IsIn (ways_of d) w × C w.next ws end

-- the same chains by another name
pub matches_as : (t : PathTree) (C D : List Way → Stop → Type 0) → Matches t C → ((ws : List Way) (end : Stop) → C ws end ↔ D ws end) → Matches t D
matches_as t C D m same = λ terms r. (
  λ i. let k = (m terms r).0 i in record { ways = k.ways; chain = (same k.ways r.stop).0 k.chain; row = k.row },
  λ k. (m terms r).1 (record { ways = k.ways; chain = (same k.ways r.stop).1 k.chain; row = k.row }),
)

-- what a path is made of
path_of_parts : (r : RegionPath) (row : PlainRow) → r.row ≡ row → record { row = row; stop = r.stop } ≡ r
path_of_parts r row e = ap (λ (x : PlainRow). let q : RegionPath = record { row = x; stop = r.stop } in q) (sym e)

pub stops_match : (here : Stop) → Matches (stops here) (StopsAt here)
stops_match here terms r = (there, back)
  where
    only : RegionPath
    only = record { row = record { path = []; literals = []; assigned = []; values = terms }; stop = here }

    there : IsIn (paths_down (stops here) terms) r → IsRowOf (StopsAt here) terms r
    there (inl e) = record { ways = []; chain = (refl, sym (ap (λ (x : RegionPath). x.stop) e)); row = sym (ap (λ (x : RegionPath). x.row) e) }
    there (inr n) = absurd n

    back_by : (ways : List Way) → StopsAt here ways r.stop → r.row ≡ along ways terms → IsIn (paths_down (stops here) terms) r
    back_by [] c e = inl (sym (ap (λ (x : Stop). let q : RegionPath = record { row = record { path = []; literals = []; assigned = []; values = terms }; stop = x } in q) c.1) ∙ path_of_parts r _ e)
    back_by (w ∷ ws) c e = absurd (let k = c.0 in cc)

    back : IsRowOf (StopsAt here) terms r → IsIn (paths_down (stops here) terms) r
    back k = back_by k.ways k.chain k.row

-- the row of a chain that begins in some decisions, with one decision more before it
decided_row : (d e : Decision) (C : Next → List Way → Stop → Type 0) (terms : List Tree) (b : Bool) (x : Comparison) (more : Way → Way) (r : RegionPath)
    → ((w : Way) → IsIn (ways_of d) w → IsIn (ways_of e) (more w)) → ((w : Way) → (more w).next ≡ w.next)
    → ((w : Way) (ws : List Way) → along (more w ∷ ws) terms ≡ joined (b ∷ []) (x ∷ []) [] (along (w ∷ ws) terms))
    → IsRowOf (BeginsIn d C) terms r → IsRowOf (BeginsIn e C) terms (begun (b ∷ []) (x ∷ []) [] r)
decided_row d e C terms b x more r inside next row k = by_ways k.ways k.chain k.row
  where
    by_ways : (ways : List Way) → BeginsIn d C ways r.stop → r.row ≡ along ways terms → IsRowOf (BeginsIn e C) terms (begun (b ∷ []) (x ∷ []) [] r)
    by_ways [] c q = absurd c
    by_ways (w ∷ ws) c q = record {
      ways = more w ∷ ws;
      chain = (inside w c.0, subst (λ (n : Next). C n ws r.stop) (sym (next w)) c.1);
      row = ap (joined (b ∷ []) (x ∷ []) []) q ∙ sym (row w ws);
    }

-- a path of one side is the row of a chain
side_there : (t : PathTree) (d e : Decision) (C : Next → List Way → Stop → Type 0) (terms : List Tree) (b : Bool) (x : Comparison) (more : Way → Way) (r : RegionPath)
    → ((w : Way) → IsIn (ways_of d) w → IsIn (ways_of e) (more w)) → ((w : Way) → (more w).next ≡ w.next)
    → ((w : Way) (ws : List Way) → along (more w ∷ ws) terms ≡ joined (b ∷ []) (x ∷ []) [] (along (w ∷ ws) terms))
    → Matches t (BeginsIn d C) → IsIn (map (begun (b ∷ []) (x ∷ []) []) (paths_down t terms)) r → IsRowOf (BeginsIn e C) terms r
side_there t d e C terms b x more r inside next row m i =
    let k = IsIn-from_map (begun (b ∷ []) (x ∷ []) []) (paths_down t terms) r i in
    subst (λ (q : RegionPath). IsRowOf (BeginsIn e C) terms q) k.2 (decided_row d e C terms b x more k.0 inside next row ((m terms k.0).0 k.1))

-- the row of a chain whose first way has one decision more is a path of that side
side_back : (t : PathTree) (d : Decision) (C : Next → List Way → Stop → Type 0) (terms : List Tree) (b : Bool) (x : Comparison) (more : Way → Way) (r : RegionPath) (v : Way) (ws : List Way)
    → ((w : Way) → (more w).next ≡ w.next)
    → ((w : Way) (vs : List Way) → along (more w ∷ vs) terms ≡ joined (b ∷ []) (x ∷ []) [] (along (w ∷ vs) terms))
    → Matches t (BeginsIn d C) → IsIn (map more (ways_of d)) v → C v.next ws r.stop → r.row ≡ along (v ∷ ws) terms
    → IsIn (map (begun (b ∷ []) (x ∷ []) []) (paths_down t terms)) r
side_back t d C terms b x more r v ws next row m i c e =
    let k = IsIn-from_map more (ways_of d) v i in
    let q : RegionPath = record { row = along (k.0 ∷ ws) terms; stop = r.stop } in
    let inside = (m terms q).1 (record { ways = k.0 ∷ ws; chain = (k.1, subst (λ (n : Next). C n ws r.stop) (next k.0) (subst (λ (w : Way). C w.next ws r.stop) (sym k.2) c)); row = refl }) in
    let same : r.row ≡ joined (b ∷ []) (x ∷ []) [] (along (k.0 ∷ ws) terms) = e ∙ ap (λ (w : Way). along (w ∷ ws) terms) (sym k.2) ∙ row k.0 ws in
    subst (λ (y : RegionPath). IsIn (map (begun (b ∷ []) (x ∷ []) []) (paths_down t terms)) y) (path_of_parts r _ same)
    (IsIn-map (begun (b ∷ []) (x ∷ []) []) (paths_down t terms) q inside)

-- a decision over two sides that match
fork_matches : (c : Comparison) (s t : PathTree) (met unmet : Decision) (C : Next → List Way → Stop → Type 0) → Matches s (BeginsIn met C) → Matches t (BeginsIn unmet C)
    → Matches (fork c s t) (BeginsIn (ask c met unmet) C)
fork_matches c s t met unmet C m n terms r = (there, back)
  where
    A : List RegionPath
    A = map (begun (true ∷ []) (comparison_under terms c ∷ []) []) (paths_down s terms)

    B : List RegionPath
    B = map (begun (false ∷ []) (comparison_under terms (denied c) ∷ []) []) (paths_down t terms)

    there : IsIn (paths_down (fork c s t) terms) r → IsRowOf (BeginsIn (ask c met unmet) C) terms r
    there i = elim (IsIn-append_cases (map (begun (true ∷ []) (comparison_under terms c ∷ []) []) (paths_down s terms)) (map (begun (false ∷ []) (comparison_under terms (denied c) ∷ []) []) (paths_down t terms)) r i) [
      | inl l ↦
          side_there s met (ask c met unmet) C terms true (comparison_under terms c) (decided_true c) r
          (λ w k. IsIn-append_left (map (decided_true c) (ways_of met)) (map (decided_false c) (ways_of unmet)) (decided_true c w) (IsIn-map (decided_true c) (ways_of met) w k))
          (λ w. refl) (λ w ws. refl) m l
      | inr l ↦
          side_there t unmet (ask c met unmet) C terms false (comparison_under terms (denied c)) (decided_false c) r
          (λ w k. IsIn-append_right (map (decided_true c) (ways_of met)) (map (decided_false c) (ways_of unmet)) (decided_false c w) (IsIn-map (decided_false c) (ways_of unmet) w k))
          (λ w. refl) (λ w ws. refl) n l
    ]

    back_by : (ways : List Way) → BeginsIn (ask c met unmet) C ways r.stop → r.row ≡ along ways terms → IsIn (paths_down (fork c s t) terms) r
    back_by [] k e = absurd k
    back_by (v ∷ ws) k e = elim (IsIn-append_cases (map (decided_true c) (ways_of met)) (map (decided_false c) (ways_of unmet)) v k.0) [
      | inl l ↦
          IsIn-append_left (map (begun (true ∷ []) (comparison_under terms c ∷ []) []) (paths_down s terms)) (map (begun (false ∷ []) (comparison_under terms (denied c) ∷ []) []) (paths_down t terms)) r
          (side_back s met C terms true (comparison_under terms c) (decided_true c) r v ws (λ w. refl) (λ w vs. refl) m l k.1 e)
      | inr l ↦
          IsIn-append_right (map (begun (true ∷ []) (comparison_under terms c ∷ []) []) (paths_down s terms)) (map (begun (false ∷ []) (comparison_under terms (denied c) ∷ []) []) (paths_down t terms)) r
          (side_back t unmet C terms false (comparison_under terms (denied c)) (decided_false c) r v ws (λ w. refl) (λ w vs. refl) n l k.1 e)
    ]

    back : IsRowOf (BeginsIn (ask c met unmet) C) terms r → IsIn (paths_down (fork c s t) terms) r
    back k = back_by k.ways k.chain k.row

-- the end of a way, over a tree that matches
done_matches : (c : Option Change) (next : Next) (t : PathTree) (C : Next → List Way → Stop → Type 0) → Matches t (C next) → Matches (change c t) (BeginsIn (done c next) C)
done_matches c next t C m terms r = (there, back)
  where
    there : IsIn (paths_down (change c t) terms) r → IsRowOf (BeginsIn (done c next) C) terms r
    there i =
        let k = IsIn-from_map (begun [] [] (assigned_under terms c)) (paths_down t (changed c terms)) r i in
        let q = (m (changed c terms) k.0).0 k.1 in
        subst (λ (x : RegionPath). IsRowOf (BeginsIn (done c next) C) terms x) k.2
        (record {
          ways = record { path = []; literals = []; change = c; next = next } ∷ q.ways;
          chain = (inl refl, q.chain);
          row = ap (joined [] [] (assigned_under terms c)) q.row;
        })

    back_by : (ways : List Way) → BeginsIn (done c next) C ways r.stop → r.row ≡ along ways terms → IsIn (paths_down (change c t) terms) r
    back_by [] k e = absurd k
    back_by (w ∷ ws) (inl f, k) e =
        let q : RegionPath = record { row = along ws (changed c terms); stop = r.stop } in
        let inside = (m (changed c terms) q).1 (record { ways = ws; chain = subst (λ (x : Way). C x.next ws r.stop) (sym f) k; row = refl }) in
        let same : r.row ≡ joined [] [] (assigned_under terms c) (along ws (changed c terms)) = e ∙ ap (λ (x : Way). along (x ∷ ws) terms) (sym f) in
        subst (λ (y : RegionPath). IsIn (paths_down (change c t) terms) y) (path_of_parts r _ same)
        (IsIn-map (begun [] [] (assigned_under terms c)) (paths_down t (changed c terms)) q inside)
    back_by (w ∷ ws) (inr f, k) e = absurd f

    back : IsRowOf (BeginsIn (done c next) C) terms r → IsIn (paths_down (change c t) terms) r
    back k = back_by k.ways k.chain k.row

-- the decisions of a line, where below the end of each way stands a tree that matches
pub grafted_matches : (below : Next → PathTree) (C : Next → List Way → Stop → Type 0) (d : Decision) → ((w : Way) → IsIn (ways_of d) w → Matches (below w.next) (C w.next))
    → Matches (grafted below d) (BeginsIn d C)
grafted_matches below C (ask c met unmet) m =
    fork_matches c (grafted below met) (grafted below unmet) met unmet C
    (grafted_matches below C met (λ w i. m (decided_true c w) (IsIn-append_left _ _ (decided_true c w) (IsIn-map (decided_true c) (ways_of met) w i))))
    (grafted_matches below C unmet (λ w i. m (decided_false c w) (IsIn-append_right (map (decided_true c) (ways_of met)) _ (decided_false c w) (IsIn-map (decided_false c) (ways_of unmet) w i))))
grafted_matches below C (done c next) m = done_matches c next (below next) C (m (record { path = []; literals = []; change = c; next = next }) (inl refl))
