-- A path along rows closed to a cycle, and the paths that come to a cycle of forward arcs first at two of its lines.
use Rattle.std.proofs.Common.{◌≡◌, ◌≢◌, inl, inr, refl, ℕ, ◌+◌, ◌<◌, ◌≤◌, Bool, true, List, [], ◌∷◌, ◌++◌, length, take, set, get_or, arith}
use Rattle.std.specs.Prelude.{◌↔◌}
use Rattle.std.proofs.lemmas.Bool.{cases_lt, cases_order}
use Rattle.il_core.specs.LineGraph.{IsIn}
use Rattle.flow_graph.specs.Graph.{Joins, IsSoundArc, arc_to}
use Rattle.flow_graph.specs.Search.{IsWalk, IsMarked, IsUnmarked, Follows, row_of}
use Rattle.flow_graph.specs.Meeting.{Meets, IsMetAt}
use Rattle.flow_graph.specs.Paths.{IsPathTo, ArePaths}
use Rattle.flow_graph.specs.declared.graph.Arc.{Arc}
use Rattle.flow_graph.proofs.Members.{IsIn-append_left, IsIn-push, IsIn-push_cases, IsIn-more_cases, IsIn-more_old, IsIn-more_new}
use Rattle.flow_graph.proofs.Spreading.{walk_on, walk_along, marked_cases, marked_new, marked_old}
use Rattle.flow_graph.proofs.Tracks.{differ_push}
use Rattle.control_flow.specs.Cycle.{IsCycle, IsEntry}
use Rattle.control_flow.specs.Forward.{AreRows, InRow, ComesBack, IsEntered, IsForward}
use Rattle.control_flow.proofs.Listing.{not_both, unmarked_from}
use Rattle.control_flow.proofs.Walks.{arc_before, met_inside, walk_end}
use Rattle.control_flow.proofs.Ways.{walk_free, walk_plain, way_found}
use Rattle.control_flow.proofs.OneEntry.{two_entries}

-- a path closed by an arc to its start is a cycle, where the lines below the start are blocked
pub cycle_from_path : (rows : List (List ℕ)) (blocked marks : List Bool) (a : ℕ) (path : List ℕ) (k : ℕ) → blocked ≡ marks
    → ((j : ℕ) → IsMarked marks j ↔ ((0 ≤ j) × (j < a))) → IsPathTo rows blocked a path k → IsIn (row_of rows k) a → IsCycle (InRow rows) path
cycle_from_path rows blocked marks a [] k e m p i = absurd p
cycle_from_path rows blocked marks a (x ∷ lines) k e m p i =
    (walk_on (InRow rows) x lines k x (walk_plain (InRow rows) rows blocked (λ u v h. h) x lines k p.2) (rw p.0 i), p.1, least)
  where
    least : (j : ℕ) → IsIn lines j → x < j
    least j h = elim (cases_lt j a) [
      | inl low ↦ let u : IsUnmarked marks j = rw e at (walk_free rows blocked x lines k p.2 j h) in absurd (not_both marks j ((m j).1 (omega arith, low)) u)
      | inr high ↦
          let s = p.0 in
          let n : x ≢ j = λ same. p.1.0 (rw (← same) at h) in
          omega (arith, high, s, n)
    ]

-- the last arc of a walk
last_step : (E : ℕ → ℕ → Type 0) (a b : ℕ) (lines : List ℕ) (c : ℕ) → IsWalk E a (b ∷ lines) c
    → (k : ℕ) × (front : List ℕ) × IsWalk E a front k × E k c × ((j : ℕ) → IsIn front j → IsIn (b ∷ lines) j)
last_step E a b [] c w = (a, [], refl, rw w.1 at w.0, λ j i. absurd i)
last_step E a b (d ∷ rest) c w =
    let t = last_step E b d rest c w.1 in
    (t.0, b ∷ t.1, (w.0, t.2), t.3, λ j i. elim i [ inl e ↦ inl e | inr h ↦ inr (t.4 j h) ])

-- some path from a line that is come back to is closed by an arc to it
pub some_closes : (rows : List (List ℕ)) (blocked marks : List Bool) (a : ℕ) (paths : List (List ℕ)) → blocked ≡ marks → ((j : ℕ) → IsMarked marks j ↔ ((0 ≤ j) × (j < a)))
    → ArePaths rows blocked a paths → ComesBack rows a → ((k : ℕ) → row_of paths k ≢ [] → IsIn (row_of rows k) a → ⊥) → ⊥
some_closes rows blocked marks a paths e m p c none =
    let t = last_step (InRow rows) a c.0 c.1 a c.2 in
    none t.0 (p.complete t.0 ((way_found (length rows) (InRow rows) rows blocked (a ∷ []) t.0 same).1 (record {
      seed = a;
      lines = t.1;
      given = inl refl;
      walk = t.2;
      each = λ j i. elim i [ inl s ↦ rw e (free j (omega (arith, s))) | inr h ↦ rw e (free j (c.3 j (t.4 j h))) ];
    }))) t.3
  where
    same : AreRows (length rows) (InRow rows) rows
    same = record { size = refl; exact = λ a b. (λ i. i, λ i. i) }

    free : (j : ℕ) → a ≤ j → IsUnmarked marks j
    free j l = unmarked_from marks j (λ h. let q = (m j).0 h in absurd (omega (arith, q, l)))

-- the marks of the lines of a front with one line more
pub listed_more : (lines : List ℕ) (i : ℕ) (marks : List Bool) → i < length lines → get_or lines i 0 < length marks → ((k : ℕ) → IsMarked marks k ↔ IsIn (take i lines) k)
    → (k : ℕ) → IsMarked (set marks (get_or lines i 0) true) k ↔ IsIn (take (i + 1) lines) k
listed_more lines i marks l w e k = (
  λ m. elim (marked_cases marks (get_or lines i 0) k m) [
    | inl same ↦ rw (← same) (IsIn-more_new lines i 0 l)
    | inr old ↦ IsIn-more_old lines i 0 k l ((e k).0 old)
  ],
  λ h. elim (IsIn-more_cases lines i 0 k l h) [
    | inl old ↦ marked_old marks (get_or lines i 0) k w ((e k).1 old)
    | inr new ↦ rw (← new) (marked_new marks (get_or lines i 0) w)
  ],
)

-- arcs of one kind are arcs of another
pub cycle_along : (E F : ℕ → ℕ → Type 0) → ((a b : ℕ) → E a b → F a b) → (cycle : List ℕ) → IsCycle E cycle → IsCycle F cycle
cycle_along E F f [] c = absurd c
cycle_along E F f (a ∷ rest) c = (walk_along E F f a (rest ++ a ∷ []) a c.0, c.1, c.2)

-- each line of a cycle is entered along it
pub before_each : (E : ℕ → ℕ → Type 0) (cycle : List ℕ) → IsCycle E cycle → (m : ℕ) → IsIn cycle m → (u : ℕ) × E u m × IsIn cycle u
before_each E [] c m i = absurd i
before_each E (a ∷ rest) c m i = let t = arc_before E a (rest ++ a ∷ []) a m c.0 (later i) in (t.0, t.1, inside t.0 t.2)
  where
    later : IsIn (a ∷ rest) m → IsIn (rest ++ a ∷ []) m
    later (inl e) = rw (← e) (IsIn-push rest a)
    later (inr h) = IsIn-append_left rest (a ∷ []) m h

    inside : (u : ℕ) → IsIn (a ∷ (rest ++ a ∷ [])) u → IsIn (a ∷ rest) u
    inside u (inl e) = inl e
    inside u (inr h) = elim (IsIn-push_cases rest a u h) [ inl old ↦ inr old | inr e ↦ inl e ]

-- a cycle of forward arcs has lines inside, none of which is line 0
pub cycle_inside : (n : ℕ) (arcs : List Arc) (cycle : List ℕ) → ((a : Arc) → IsIn arcs a → IsSoundArc n a) → IsCycle (IsForward arcs) cycle → (m : ℕ) → IsIn cycle m
    → (m < n) × (m ≢ 0)
cycle_inside n arcs cycle s c m i =
    let t = before_each (IsForward arcs) cycle c m i in
    let a = s (arc_to t.0 m) t.1.0 in
    (a.head_inside, a.enters_no_start)

-- the paths to a cycle, over lines outside it
pub record Setting (n : ℕ) (arcs : List Arc) (heads tails : List (List ℕ)) (cycle : List ℕ) (blocked : List Bool) (paths : List (List ℕ)) : Type 0 where
  pub heads_are : AreRows n (Joins arcs) heads
  pub tails_are : AreRows n (λ a b. Joins arcs b a) tails
  pub marked : (k : ℕ) → IsMarked blocked k ↔ IsIn cycle k
  pub is_cycle : IsCycle (IsForward arcs) cycle
  pub no_start : IsIn cycle 0 → ⊥
  pub paths_are : ArePaths heads blocked 0 paths

-- a walk outside a set and an arc into it meet it at the end
meets_push : (E : ℕ → ℕ → Type 0) (rows : List (List ℕ)) (blocked : List Bool) (P : ℕ → Type 0) → ((a b : ℕ) → IsIn (row_of rows a) b → E a b)
    → ((j : ℕ) → IsUnmarked blocked j → P j → ⊥) → (a : ℕ) (lines : List ℕ) (u k : ℕ) → (P a → ⊥) → IsWalk (Follows rows blocked) a lines u → E u k → P k
    → Meets E P a (lines ++ k ∷ []) k
meets_push E rows blocked P r f a [] u k n w e p = (n, rw w e, (refl, p))
meets_push E rows blocked P r f a (c ∷ rest) u k n w e p = (n, r a c w.0.0, meets_push E rows blocked P r f c rest u k (f c w.0.1) w.1 e p)

-- a path outside the cycle and an arc into it are an entry
entry_by : (n : ℕ) (arcs : List Arc) (heads tails : List (List ℕ)) (cycle : List ℕ) (blocked : List Bool) (paths : List (List ℕ)) → Setting n arcs heads tails cycle blocked paths
    → (path : List ℕ) (u k : ℕ) → IsPathTo heads blocked 0 path u → Joins arcs u k → IsIn cycle k → IsEntry (Joins arcs) 0 cycle (path ++ k ∷ []) k
entry_by n arcs heads tails cycle blocked paths s [] u k p e i = absurd p
entry_by n arcs heads tails cycle blocked paths s (a ∷ lines) u k p e i =
    (p.0, differ_push (a ∷ lines) k p.1 not_on, meets_push (Joins arcs) heads blocked (IsIn cycle) (λ a b. (s.heads_are.exact a b).0) outside a lines u k not_start p.2 e i)
  where
    outside : (j : ℕ) → IsUnmarked blocked j → IsIn cycle j → ⊥
    outside j f h = not_both blocked j ((s.marked j).1 h) f

    not_start : IsIn cycle a → ⊥
    not_start h = s.no_start (rw p.0 at h)

    not_on : IsIn (a ∷ lines) k → ⊥
    not_on (inl same) = not_start (rw same i)
    not_on (inr h) = outside k (walk_free heads blocked a lines u p.2 k h) i

pub entry_path : (n : ℕ) (arcs : List Arc) (heads tails : List (List ℕ)) (cycle : List ℕ) (blocked : List Bool) (paths : List (List ℕ)) → Setting n arcs heads tails cycle blocked paths
    → (k u : ℕ) → IsMarked blocked k → IsIn (row_of tails k) u → row_of paths u ≢ [] → IsEntry (Joins arcs) 0 cycle (row_of paths u ++ k ∷ []) k
entry_path n arcs heads tails cycle blocked paths s k u m i h =
    entry_by n arcs heads tails cycle blocked paths s (row_of paths u) u k (s.paths_are.path u h) ((s.tails_are.exact k u).0 i) ((s.marked k).0 m)

-- the last arc of a walk that meets a set
met_last : (E : ℕ → ℕ → Type 0) (P : ℕ → Type 0) (a : ℕ) (lines : List ℕ) (x : ℕ) → Meets E P a lines x → (P a → ⊥)
    → (u : ℕ) × (front : List ℕ) × IsWalk E a front u × ((j : ℕ) → IsIn (a ∷ front) j → P j → ⊥) × E u x
met_last E P a [] x m n = absurd (n m.1)
met_last E P a (b ∷ []) x m n = (a, [], refl, (λ j i p. elim i [ inl s ↦ n (rw s p) | inr h ↦ h ]), rw m.2.0 at m.1)
met_last E P a (b ∷ c ∷ rest) x m n =
    let t = met_last E P b (c ∷ rest) x m.2 m.2.0 in
    (t.0, b ∷ t.1, (m.1, t.2), (λ j i p. elim i [ inl s ↦ n (rw s p) | inr h ↦ t.3 j h p ]), t.4)

-- where the cycle is met first it is entered from a line with a path
met_entered : (n : ℕ) (arcs : List Arc) (heads tails : List (List ℕ)) (cycle : List ℕ) (blocked : List Bool) (paths : List (List ℕ)) → Setting n arcs heads tails cycle blocked paths
    → (k : ℕ) → IsMetAt (Joins arcs) 0 (IsIn cycle) k → IsEntered tails blocked paths k
met_entered n arcs heads tails cycle blocked paths s k t =
    let l = met_last (Joins arcs) (IsIn cycle) 0 t.0 k t.1 s.no_start in (
      (s.marked k).1 (met_inside (Joins arcs) (IsIn cycle) 0 t.0 k t.1),
      (
        l.0,
        (s.tails_are.exact k l.0).1 l.4,
        s.paths_are.complete l.0 ((way_found n (Joins arcs) heads blocked (0 ∷ []) l.0 s.heads_are).1 (record {
          seed = 0;
          lines = l.1;
          given = inl refl;
          walk = l.2;
          each = λ j i. unmarked_from blocked j (λ h. l.3 j i ((s.marked j).0 h));
        })),
      ),
    )

-- some line of a cycle
first_of : (E : ℕ → ℕ → Type 0) (cycle : List ℕ) → IsCycle E cycle → (a : ℕ) × IsIn cycle a
first_of E [] c = absurd c
first_of E (a ∷ rest) c = (a, inl refl)

-- a line of the cycle other than one is entered
pub no_other : (n : ℕ) (arcs : List Arc) (heads tails : List (List ℕ)) (cycle : List ℕ) (blocked : List Bool) (paths : List (List ℕ)) → Setting n arcs heads tails cycle blocked paths
    → (x : ℕ) → ((k : ℕ) → 0 ≤ k → k < x → IsEntered tails blocked paths k → ⊥) → ((k : ℕ) → x + 1 ≤ k → IsEntered tails blocked paths k → ⊥) → ⊥
no_other n arcs heads tails cycle blocked paths s x below above =
    let a = first_of (IsForward arcs) cycle s.is_cycle in
    let u = before_each (IsForward arcs) cycle s.is_cycle a.0 a.1 in
    let f = u.1.1 in
    two_entries arcs cycle x a.0 a.1 (f.0 ++ a.0 ∷ [], walk_on (Joins arcs) 0 f.0 u.0 a.0 f.1 u.1.0) (before_each (IsForward arcs) cycle s.is_cycle) one
  where
    one : (y : ℕ) → IsMetAt (Joins arcs) 0 (IsIn cycle) y → y ≡ x
    one y t = elim (cases_order y x) [
      | inl same ↦ same
      | inr other ↦ elim other [
        | inl low ↦ absurd (below y (omega arith) low (met_entered n arcs heads tails cycle blocked paths s y t))
        | inr high ↦ absurd (above y (omega (arith, high)) (met_entered n arcs heads tails cycle blocked paths s y t))
      ]
    ]

pub some_entered : (n : ℕ) (arcs : List Arc) (heads tails : List (List ℕ)) (cycle : List ℕ) (blocked : List Bool) (paths : List (List ℕ)) → Setting n arcs heads tails cycle blocked paths
    → ((k : ℕ) → 0 ≤ k → IsEntered tails blocked paths k → ⊥) → ⊥
some_entered n arcs heads tails cycle blocked paths s none =
    no_other n arcs heads tails cycle blocked paths s 0 (λ k a b. absurd (omega (arith, b))) (λ k a. none k (omega arith))

pub setting : (n : ℕ) (arcs : List Arc) (heads tails : List (List ℕ)) (cycle slice : List ℕ) (items blocked : List Bool) (paths found : List (List ℕ))
    → ((a : Arc) → IsIn arcs a → IsSoundArc n a) → AreRows n (Joins arcs) heads → AreRows n (λ a b. Joins arcs b a) tails → IsCycle (IsForward arcs) cycle
    → ((k : ℕ) → IsMarked items k ↔ IsIn slice k) → slice ≡ cycle → blocked ≡ items → ArePaths heads blocked 0 paths → found ≡ paths
    → Setting n arcs heads tails cycle blocked found
setting n arcs heads tails cycle slice items blocked paths found sound h t c m s b p f = record {
  heads_are = h;
  tails_are = t;
  marked = rw (b, ← s) m;
  is_cycle = c;
  no_start = λ i. (cycle_inside n arcs cycle sound c 0 i).1 refl;
  paths_are = rw f p;
}

-- a line into which no arc goes from a greater line is not come back to
pub not_back : (rows : List (List ℕ)) (row : List ℕ) (a : ℕ) → ((u : ℕ) → InRow rows u a → IsIn row u × (u ≢ a)) → ((u : ℕ) → IsIn row u → u ≤ a) → ComesBack rows a → ⊥
not_back rows row a r low c =
    let t = last_step (InRow rows) a c.0 c.1 a c.2 in
    let p = r t.0 t.3 in
    let l = low t.0 p.0 in
    let n = p.1 in
    let h = high t.0 t.1 t.4 (walk_end (InRow rows) a t.1 t.0 t.2) in
    omega (arith, l, n, h)
  where
    high : (k : ℕ) (front : List ℕ) → ((j : ℕ) → IsIn front j → IsIn (c.0 ∷ c.1) j) → IsIn (a ∷ front) k → a ≤ k
    high k front f (inl e) = omega (arith, e)
    high k front f (inr i) = c.3 k (f k i)
