-- The trees of a region have exactly the rows of its chains.
use Rattle.std.proofs.Common.{◌≡◌, refl, sym, ap, ◌∙◌, subst, ℕ, zero, suc, ◌+◌, ◌<◌, ◌≤◌, Bool, true, false, Some, List, [], ◌∷◌, ◌++◌, length, slice_get, arith}
use Rattle.std.specs.Prelude.{◌↔◌, MatchBool, if◌then◌else◌}
use Rattle.std.proofs.lemmas.List.{length-append, length-map}
use Rattle.il_core.specs.LineGraph.{IsPath, HasArc}
use Rattle.il_core.specs.Procedure.{Procedure}
use Rattle.il_core.specs.Checked.{IsChecked}
use Rattle.il_core.specs.declared.line.Next.{Next}
use Rattle.il_core.specs.declared.line.Next.TheVariants as next
use Rattle.il_core.specs.declared.line.Stop.{Stop}
use Rattle.il_core.specs.declared.line.Stop.TheVariants as stop
use Rattle.line_machine.specs.Cut.{CyclesAreCut}
use Rattle.line_machine.proofs.Ways.{AreUnmarked, few_unmarked}
use Rattle.flow_graph.specs.Graph.{node_of, returned_from}
use Rattle.flow_graph.proofs.Formed.{graph_formed}
use Rattle.flow_graph.proofs.LineArcs.{Joins-from_HasArc}
use Rattle.control_flow.specs.declared.control.LoopInfo.{LoopInfo}
use Rattle.test_graph.specs.Decision.{decision_at}
use Rattle.test_graph.specs.Way.{Way, line_paths}
use Rattle.test_graph.specs.Laws.{WaysGoAlongArcs}
use Rattle.region_paths.specs.Region.{is_head, head_marks, leading_of}
use Rattle.region_paths.specs.Chain.{StopsAt, Onward, IsChainTo, Passes, Leads, IsChain, IsLongChain}
use Rattle.region_paths.specs.PathTree.{PathTree, stops, grafted, below, tree_to, passed, leading_tree, short_tree, long_tree}
use Rattle.region_paths.specs.Laws.{BeginsRegion}
use Rattle.region_paths.proofs.Marks.{mark_of, length-head_marks}
use Rattle.region_paths.proofs.Cuts.{heads_cut}
use Rattle.region_paths.proofs.Matching.{Matches, BeginsIn, matches_as, stops_match, grafted_matches}

-- what stands at a head or at any other line matches
either_matches : (b : Bool) (s t : PathTree) (C D : List Way → Stop → Type 0) → (b ≡ true → Matches s C) → (b ≡ false → Matches t D)
    → Matches (if b then s else t) (λ ws end. MatchBool b (C ws end) (D ws end))
either_matches true s t C D m n = m refl
either_matches false s t C D m n = n refl

-- what stands below the end of a way matches
below_matches : (loops : List LoopInfo) (at_head at_line : ℕ → PathTree) (B L : ℕ → List Way → Stop → Type 0) (to : Next) → ((q : ℕ) → Matches (at_head q) (B q))
    → ((q : ℕ) → to ≡ next.At q → is_head loops q ≡ false → Matches (at_line q) (L q))
    → Matches (below loops at_head at_line to) (λ ws end. Onward loops to ws end (λ q. B q ws end) (λ q. L q ws end))
below_matches loops at_head at_line B L (next.Halted h) m n = stops_match (stop.Halted h)
below_matches loops at_head at_line B L (next.At q) m n = either_matches (is_head loops q) (at_head q) (at_line q) (B q) (L q) (λ e. m q) (n q refl)

-- a chain from a line begins with a way of its decisions
chain_begins : (p : Procedure) (loops : List LoopInfo) (B : ℕ → List Way → Stop → Type 0) (pc : ℕ) (ws : List Way) (end : Stop)
    → BeginsIn (decision_at p pc) (λ to vs e. Onward loops to vs e (λ q. B q vs e) (λ q. IsChainTo p loops B q vs e)) ws end ↔ IsChainTo p loops B pc ws end
unfolding line_paths
chain_begins p loops B pc [] end = (λ x. x, λ x. x)
chain_begins p loops B pc (w ∷ ws) end = (λ x. x, λ x. x)

-- an arc enters a line of the procedure
pub arc_inside : (p : Procedure) (a b : ℕ) → IsChecked p → HasArc p a b → b < length p.lines
arc_inside p a b c h = omega (arith, ((graph_formed p c).arcs _ (Joins-from_HasArc p a b h)).head_inside, length-map p.lines (node_of (returned_from 0 p.places)))

-- a path and an arc from its end are a path
path-more : (p : Procedure) (pc q r : ℕ) (qs : List ℕ) → IsPath p pc qs q → HasArc p q r → IsPath p pc (qs ++ r ∷ []) r
path-more p pc q r [] h a = (subst (λ (x : ℕ). HasArc p x r) (sym h) a, refl)
path-more p pc q r (x ∷ xs) h a = (h.0, path-more p x q r xs h.1 a)

unmarked-more : (cuts : List Bool) (qs : List ℕ) (r : ℕ) → AreUnmarked cuts qs → slice_get cuts r ≡ Some false → AreUnmarked cuts (qs ++ r ∷ [])
unmarked-more cuts [] r u h = (h, tt)
unmarked-more cuts (q ∷ qs) r u h = (u.0, unmarked-more cuts qs r u.1 h)

-- the lines from the first line of a region to line q, so many that no path has k more
record Trail (p : Procedure) (loops : List LoopInfo) (pc q k : ℕ) : Type 0 where
  lines : List ℕ
  path : IsPath p pc lines q
  unmarked : AreUnmarked (head_marks (length p.lines) loops) lines
  room : suc (length p.lines) ≤ length lines + k

-- one line more
trail_on : (p : Procedure) (loops : List LoopInfo) (pc q r k : ℕ) → IsChecked p → Trail p loops pc q (suc k) → HasArc p q r → is_head loops r ≡ false → Trail p loops pc r k
trail_on p loops pc q r k c t a e = record {
  lines = t.lines ++ r ∷ [];
  path = path-more p pc q r t.lines t.path a;
  unmarked = unmarked-more (head_marks (length p.lines) loops) t.lines r t.unmarked (mark_of (length p.lines) loops r (arc_inside p q r c a) ∙ ap Some e);
  room = omega (arith, length-append t.lines (r ∷ []), t.room);
}

-- no trail has more lines than the procedure
no_room : (p : Procedure) (loops : List LoopInfo) (pc q : ℕ) → CyclesAreCut p (head_marks (length p.lines) loops) pc → Trail p loops pc q 0 → ⊥
no_room p loops pc q c t =
    absurd (omega (arith, few_unmarked p (head_marks (length p.lines) loops) pc t.lines q c t.path t.unmarked, length-head_marks (length p.lines) loops, t.room))

-- the tree of a line on a trail has the rows of the chains from it
tree_matches : (p : Procedure) (loops : List LoopInfo) (pc : ℕ) (at_head : ℕ → PathTree) (B : ℕ → List Way → Stop → Type 0) → WaysGoAlongArcs → BeginsRegion p loops pc
    → ((q : ℕ) → Matches (at_head q) (B q)) → (k q : ℕ) → Trail p loops pc q k → Matches (tree_to p loops at_head k q) (IsChainTo p loops B q)
unfolding line_paths
tree_matches p loops pc at_head B arcs b m zero q t = absurd (no_room p loops pc q (heads_cut p loops pc b) t)
tree_matches p loops pc at_head B arcs b m (suc k) q t =
    matches_as (grafted (below loops at_head (λ r. tree_to p loops at_head k r)) (decision_at p q))
    (BeginsIn (decision_at p q) (λ to vs e. Onward loops to vs e (λ r. B r vs e) (λ r. IsChainTo p loops B r vs e))) (IsChainTo p loops B q)
    (grafted_matches (below loops at_head (λ r. tree_to p loops at_head k r))
    (λ to vs e. Onward loops to vs e (λ r. B r vs e) (λ r. IsChainTo p loops B r vs e)) (decision_at p q)
    (λ w i. below_matches loops at_head (λ r. tree_to p loops at_head k r) B (IsChainTo p loops B) w.next m
    (λ r e f. tree_matches p loops pc at_head B arcs b m k r (trail_on p loops pc q r k b.checked t (arcs p q r w i e) f))))
    (chain_begins p loops B q)

-- the tree of a region's first line, as far as more lines than there are
region_matches : (p : Procedure) (loops : List LoopInfo) (pc : ℕ) (at_head : ℕ → PathTree) (B : ℕ → List Way → Stop → Type 0) (n : ℕ) → suc (length p.lines) ≤ n → WaysGoAlongArcs
    → BeginsRegion p loops pc → ((q : ℕ) → Matches (at_head q) (B q)) → Matches (tree_to p loops at_head n pc) (IsChainTo p loops B pc)
region_matches p loops pc at_head B n far arcs b m =
    tree_matches p loops pc at_head B arcs b m n pc (record { lines = []; path = refl; unmarked = tt; room = omega (arith, far) })

-- what stands below the end of a leading assertion's way
passed_matches : (t : PathTree) (C : List Way → Stop → Type 0) (to : Next) → Matches t C → Matches (passed t to) (λ ws end. Passes to ws end (C ws end))
passed_matches t C (next.Halted h) m = stops_match (stop.Halted h)
passed_matches t C (next.At q) m = m

leads_begins : (p : Procedure) (head a : ℕ) (lines : List ℕ) (ws : List Way) (end : Stop)
    → BeginsIn (decision_at p a) (λ to vs e. Passes to vs e (Leads p head lines vs e)) ws end ↔ Leads p head (a ∷ lines) ws end
unfolding line_paths
leads_begins p head a lines [] end = (λ x. x, λ x. x)
leads_begins p head a lines (w ∷ ws) end = (λ x. x, λ x. x)

leading_matches : (p : Procedure) (head : ℕ) (lines : List ℕ) → Matches (leading_tree p head lines) (Leads p head lines)
leading_matches p head [] = stops_match (stop.Head head)
leading_matches p head (a ∷ lines) =
    matches_as (grafted (passed (leading_tree p head lines)) (decision_at p a))
    (BeginsIn (decision_at p a) (λ to vs e. Passes to vs e (Leads p head lines vs e))) (Leads p head (a ∷ lines))
    (grafted_matches (passed (leading_tree p head lines)) (λ to vs e. Passes to vs e (Leads p head lines vs e)) (decision_at p a)
    (λ w i. passed_matches (leading_tree p head lines) (Leads p head lines) w.next (leading_matches p head lines)))
    (leads_begins p head a lines)

pub short_matches : (p : Procedure) (loops : List LoopInfo) (pc : ℕ) → WaysGoAlongArcs → BeginsRegion p loops pc → Matches (short_tree p loops pc) (IsChain p loops pc)
unfolding short_tree
short_matches p loops pc arcs b =
    region_matches p loops pc (λ q. stops (stop.Head q)) (λ q. StopsAt (stop.Head q)) (suc (length p.lines)) (omega arith) arcs b (λ q. stops_match (stop.Head q))

-- the long paths, as far as more lines than there are
pub far_matches : (p : Procedure) (loops : List LoopInfo) (pc n : ℕ) → suc (length p.lines) ≤ n → WaysGoAlongArcs → BeginsRegion p loops pc
    → Matches (tree_to p loops (λ q. leading_tree p q (leading_of loops q)) n pc) (IsLongChain p loops pc)
far_matches p loops pc n far arcs b =
    region_matches p loops pc (λ q. leading_tree p q (leading_of loops q)) (λ q. Leads p q (leading_of loops q)) n far arcs b (λ q. leading_matches p q (leading_of loops q))

pub long_matches : (p : Procedure) (loops : List LoopInfo) (pc : ℕ) → WaysGoAlongArcs → BeginsRegion p loops pc → Matches (long_tree p loops pc) (IsLongChain p loops pc)
unfolding long_tree
long_matches p loops pc arcs b = far_matches p loops pc (suc (length p.lines)) (omega arith) arcs b
