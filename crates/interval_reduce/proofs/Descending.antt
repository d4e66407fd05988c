-- The levels go down from one graph to the next: what stays true while they are made.
use Rattle.std.proofs.Common.{◌≡◌, refl, ℕ, ◌<◌, ◌≤◌, List, [], ◌∷◌, ◌++◌, length, append_assoc, arith}
use Rattle.std.specs.Prelude.{◌↔◌}
use Rattle.std.proofs.lemmas.List.{length-map}
use Rattle.il_core.specs.LineGraph.{IsIn}
use Rattle.flow_graph.specs.declared.graph.Arc.{Arc}
use Rattle.flow_graph.specs.declared.graph.FlowGraph.{FlowGraph}
use Rattle.flow_graph.specs.Graph.{Joins, IsWellFormed}
use Rattle.flow_graph.specs.Search.{AreBelow, Reaches}
use Rattle.flow_graph.specs.Reached.{IsReached, Differ}
use Rattle.flow_graph.proofs.Spreading.{walk_on, walk_keeps, walk_along}
use Rattle.interval_reduce.specs.declared.interval.Interval.{Interval}
use Rattle.interval_reduce.specs.Level.{IsLevel, IsLastLevel, NextArc, heads_of, AreLevels}
use Rattle.interval_reduce.specs.Derivation.{AreLevelsOf}
use Rattle.interval_reduce.specs.Growth.{members_of}
use Rattle.interval_reduce.specs.Arcs.{AreSpread, AreLevelsFrom}
use Rattle.interval_reduce.proofs.ReductionLists.{length_below}
use Rattle.interval_reduce.proofs.ReductionGraph.{good_lines}
use Rattle.interval_reduce.proofs.Dominance.{Good}
use Rattle.interval_reduce.proofs.OwnerLevel.{shared, good_next}
use Rattle.interval_reduce.proofs.Alike.{levels_alike}
use Rattle.interval_reduce.proofs.Shrinking.{length-le_from_members, more_members}

-- arcs that spread are those of a graph whose nodes are all reached
pub spread_good : (n : ℕ) (arcs : List Arc) → AreSpread n arcs → Good n (Reaches (Joins arcs) 0) (Joins arcs)
spread_good n arcs s = record {
  first = ([], refl);
  reached = λ v r. r;
  joined = λ u v e. let r = s.reached u v e in (r, (r.0 ++ v ∷ [], walk_on (Joins arcs) 0 r.0 u v r.1 e));
  none_in = s.none_in;
  no_self = s.no_self;
  below = λ v r. walk_keeps (Joins arcs) (λ k. k < n) (λ a b l e. (s.below a b e).head) 0 r.0 v r.1 s.some;
}

-- the arcs of such a graph spread
pub good_spread : (n : ℕ) (N : ℕ → Type 0) (E : ℕ → ℕ → Type 0) (arcs : List Arc) → Good n N E → ((a b : ℕ) → Joins arcs a b ↔ E a b) → AreSpread n arcs
good_spread n N E arcs g e = record {
  some = g.below 0 g.first;
  below = λ a b j. let k = g.joined a b ((e a b).0 j) in record { tail = g.below a k.0; head = g.below b k.1 };
  reached = λ a b j. let r = g.reached a (g.joined a b ((e a b).0 j)).0 in (r.0, walk_along E (Joins arcs) (λ u v. (e u v).1) 0 r.0 a r.1);
  none_in = λ a j. g.none_in a ((e a 0).0 j);
  no_self = λ a j. g.no_self a ((e a a).0 j);
}

-- and what is reached along them are its nodes
pub good_reached : (n : ℕ) (N : ℕ → Type 0) (E : ℕ → ℕ → Type 0) (arcs : List Arc) → Good n N E → ((a b : ℕ) → Joins arcs a b ↔ E a b)
    → (v : ℕ) → Reaches (Joins arcs) 0 v ↔ N v
good_reached n N E arcs g e v = (
  λ r. walk_keeps (Joins arcs) N (λ a b m j. (g.joined a b ((e a b).0 j)).1) 0 r.0 v r.1 g.first,
  λ m. let r = g.reached v m in (r.0, walk_along E (Joins arcs) (λ a b. (e a b).1) 0 r.0 v r.1),
)

-- how many nodes there are at most at the next level
abbrev pub left : ℕ → List (List Interval) → ℕ
left n [] = n
left n (level ∷ rest) = left (length level) rest

left-push : (n : ℕ) (was : List (List Interval)) (level : List Interval) → left n (was ++ level ∷ []) ≡ length level
left-push n [] level = refl
left-push n (l ∷ was) level = left-push (length l) was level

-- what stays true: the levels so far lead to all levels, whatever the levels of these arcs are
pub record Descending (n : ℕ) (first arcs : List Arc) (levels : List (List Interval)) : Type 0 where
  pub spread : AreSpread n arcs
  pub few : (xs : List ℕ) → Differ xs → ((v : ℕ) → IsIn xs v → Reaches (Joins arcs) 0 v) → length xs ≤ left n levels
  pub goes : (level : List Interval) (more : List (List Interval)) → AreLevels (Reaches (Joins arcs) 0) (Joins arcs) level more
      → AreLevelsFrom (Reaches (Joins first) 0) (Joins first) (levels ++ level ∷ more)

pub descending_start : (n : ℕ) (first : List Arc) (levels : List (List Interval)) → AreSpread n first → levels ≡ [] → Descending n first first levels
descending_start n first levels s e = rw e (record {
  spread = s;
  few = λ xs d r. length_below xs n d (λ v i. (spread_good n first s).below v (r v i));
  goes = λ level more h. h;
})

-- the nodes of a level are below the limit
pub members_below : (n : ℕ) (arcs : List Arc) (level : List Interval) → AreSpread n arcs → IsLevel (Reaches (Joins arcs) 0) (Joins arcs) level → AreBelow n (members_of level)
members_below n arcs level s h v i =
    let g = spread_good n arcs s in
    g.below v ((shared n (Reaches (Joins arcs) 0) (Joins arcs) g level h).nodes v i)

-- a level that is not the last has fewer intervals than nodes
pub fewer_left : (n : ℕ) (first arcs : List Arc) (levels : List (List Interval)) (level : List Interval) → Descending n first arcs levels
    → IsLevel (Reaches (Joins arcs) 0) (Joins arcs) level → (IsLastLevel level → ⊥) → length level < left n levels
fewer_left n first arcs levels level d h last =
    let s = shared n (Reaches (Joins arcs) 0) (Joins arcs) (spread_good n arcs d.spread) level h in
    let m = more_members (Reaches (Joins arcs) 0) (Joins arcs) level h last in
    let f = d.few (members_of level) s.differ s.nodes in
    omega (arith, m, f)

pub descending_on : (n : ℕ) (first arcs next : List Arc) (was levels : List (List Interval)) (level : List Interval) → IsLevel (Reaches (Joins arcs) 0) (Joins arcs) level
    → (IsLastLevel level → ⊥) → ((a b : ℕ) → Joins next a b ↔ NextArc (Joins arcs) level a b) → levels ≡ was ++ level ∷ []
    → Descending n first arcs was → Descending n first next levels
descending_on n first arcs next was levels level h last e s d =
    let g = good_next n (Reaches (Joins arcs) 0) (Joins arcs) (spread_good n arcs d.spread) level h in
    let same = good_reached n (IsIn (heads_of level)) (NextArc (Joins arcs) level) next g e in
    rw s (record {
      spread = good_spread n (IsIn (heads_of level)) (NextArc (Joins arcs) level) next g e;
      few = λ xs f r.
          let l = length-le_from_members xs (heads_of level) f (λ v i. (same v).0 (r v i)) in
          omega (arith, l, length-map level (λ (i : Interval). i.head), left-push n was level);
      goes = λ l more k. rw (append_assoc was (level ∷ []) (l ∷ more)) (d.goes level (l ∷ more) (
        h,
        last,
        levels_alike (Reaches (Joins next) 0) (IsIn (heads_of level)) (Joins next) (NextArc (Joins arcs) level) same e l more k,
      ));
    })

pub left_after : (n : ℕ) (was levels : List (List Interval)) (level : List Interval) → levels ≡ was ++ level ∷ [] → left n levels ≡ length level
left_after n was levels level e = rw e (left-push n was level)

pub descending_end : (n : ℕ) (first arcs : List Arc) (was levels : List (List Interval)) (level : List Interval) → IsLevel (Reaches (Joins arcs) 0) (Joins arcs) level
    → IsLastLevel level → levels ≡ was ++ level ∷ [] → Descending n first arcs was → AreLevelsFrom (Reaches (Joins first) 0) (Joins first) levels
descending_end n first arcs was levels level h last s d = rw s (d.goes level [] (h, last))

-- the arcs that leave reachable lines spread, and their levels are those of the graph
pub first_spread : (g : FlowGraph) (first : List Arc) → IsWellFormed g → ((a b : ℕ) → Joins first a b ↔ (Joins g.arcs a b × IsReached g.arcs a)) → AreSpread (length g.nodes) first
first_spread g first f e = good_spread (length g.nodes) (IsReached g.arcs) (λ a b. Joins g.arcs a b × IsReached g.arcs a) first (good_lines g f) e

pub levels_of_graph : (g : FlowGraph) (first : List Arc) (levels : List (List Interval)) → IsWellFormed g
    → ((a b : ℕ) → Joins first a b ↔ (Joins g.arcs a b × IsReached g.arcs a)) → AreLevelsFrom (Reaches (Joins first) 0) (Joins first) levels → AreLevelsOf g levels
levels_of_graph g first [] f e h = h
levels_of_graph g first (level ∷ rest) f e h =
    let same = good_reached (length g.nodes) (IsReached g.arcs) (λ a b. Joins g.arcs a b × IsReached g.arcs a) first (good_lines g f) e in
    levels_alike (Reaches (Joins first) 0) (IsReached g.arcs) (Joins first) (λ a b. Joins g.arcs a b × IsReached g.arcs a) same e level rest h
