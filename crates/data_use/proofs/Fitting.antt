-- The routes fit an elimination with two targets behind the lines, and its sums are those of walks.
use Rattle.std.proofs.Common.{◌≡◌, ◌≢◌, ◌⊎◌, ◌↔◌, inl, inr, refl, sym, ap, ◌∙◌, subst, ℕ, zero, suc, ◌+◌, ◌*◌, ◌<◌, ◌≤◌, Some, List, [], ◌∷◌, length, map, get_or, slice_get, arith}
use Rattle.std.proofs.lemmas.Option.{same_Some, slice_get-get_or}
use Rattle.std.proofs.lemmas.Bool.Decides.{eqb_tells}
use Rattle.il_core.specs.LineGraph.{IsIn}
use Rattle.flow_graph.specs.Graph.{Joins, IsWellFormed}
use Rattle.flow_graph.specs.Search.{IsWalk}
use Rattle.flow_graph.specs.Reached as reached
use Rattle.flow_graph.specs.Reached.{IsReached}
use Rattle.flow_graph.specs.declared.graph.Arc.{Arc}
use Rattle.flow_graph.specs.declared.graph.FlowGraph.{FlowGraph}
use Rattle.flow_graph.proofs.Members.{IsIn-map, IsIn-from_map}
use Rattle.flow_graph.proofs.Spreading.{walk_on, walk_keeps}
use Rattle.regular_algebra.specs.Paths.{IsArc}
use Rattle.regular_algebra.specs.Answers.{IsAmong, Differ, FitsArcs}
use Rattle.regular_algebra.specs.Relation as bits
use Rattle.regular_algebra.specs.Relations.{ends_of, PathJoins, AnswersJoin}
use Rattle.regular_algebra.specs.declared.steps.Ends.{Ends}
use Rattle.regular_algebra.specs.declared.steps.Entry.{Entry}
use Rattle.regular_algebra.specs.declared.relation.BitRelation.{BitRelation}
use Rattle.data_use.specs.Events.{events_along}
use Rattle.data_use.specs.Points.{Leads, number, Carries}
use Rattle.data_use.specs.Routes.{IsExit, IsRoute}
use Rattle.data_use.specs.Sums.{ends_along, EachCarries, IsFullOrder, AreSums}
use Rattle.data_use.specs.declared.points.Point.{Point}
use Rattle.data_use.proofs.ArcWalks.{IsEdge, Through, paths-are_trails, trails-are_walks}
use Rattle.data_use.proofs.Carrying.{through-leads}

-- a member in one word is one in the other
among-in : (xs : List ℕ) (x : ℕ) → IsAmong xs x ↔ IsIn xs x
among-in [] x = (λ h. h, λ h. h)
among-in (y ∷ xs) x = (
  λ h. elim h [ inl e ↦ inl e | inr i ↦ inr ((among-in xs x).0 i) ],
  λ h. elim h [ inl e ↦ inl e | inr i ↦ inr ((among-in xs x).1 i) ],
)

differ-differ : (xs : List ℕ) → reached.Differ xs → Differ xs
differ-differ [] d = tt
differ-differ (x ∷ xs) d = (λ h. d.0 ((among-in xs x).0 h), differ-differ xs d.1)

module _ (g : FlowGraph) (formed : IsWellFormed g) where
  start : IsReached g.arcs 0
  start = ([], refl)

  -- what a reachable line leads to is reachable
  reach_on : (x m : ℕ) → IsReached g.arcs x → Joins g.arcs x m → IsReached g.arcs m
  reach_on x m r j = (_, walk_on (Joins g.arcs) 0 r.0 x m r.1 j)

  -- a reachable line is a line
  pub reached-low : (x : ℕ) → IsReached g.arcs x → x < length g.nodes
  reached-low x r =
      let two = formed.some_nodes in
      walk_keeps (Joins g.arcs) (λ k. k < length g.nodes) (λ a b l j. (formed.arcs _ j).head_inside) 0 r.0 x r.1 (omega arith)

  module _ (routes : List Arc) (exact : (a : Arc) → IsIn routes a ↔ IsRoute g a) where
    -- the ends of a number are those of a route
    route_at : (ends : List Ends) → ends ≡ map ends_along routes → (k i j : ℕ) → IsArc ends k i j → IsRoute g (record { tail = i; head = j })
    route_at ends e k i j a = (exact _).0 (at routes k (ap (λ s. slice_get s k) (sym e) ∙ a))
      where
        at : (rs : List Arc) (n : ℕ) → slice_get (map ends_along rs) n ≡ Some (record { tail = i; head = j }) → IsIn rs (record { tail = i; head = j })
        at [] n p = absurd (cc)
        at (r ∷ rs) zero p =
            let s : ◌≡◌ {A = Ends} (record { tail = r.tail; head = r.head }) (record { tail = i; head = j }) = same_Some _ _ p in
            inl (ap (λ (x : Ends). record { tail = x.tail; head = x.head }) s)
        at (r ∷ rs) (suc n) p = inr (at rs n p)

    -- the head of a route is a target, or a line other than line 0 that is reachable
    head_of : (i j : ℕ) → IsRoute g (record { tail = i; head = j }) → ((length g.nodes ≡ j) ⊎ (length g.nodes + 1 ≡ j)) ⊎ (IsReached g.arcs j × (j ≢ 0))
    head_of i j r = elim r.1 [
      | inl inner ↦ inr (reach_on i j r.0 inner, (formed.arcs _ inner).enters_no_start)
      | inr exit ↦ inl (elim exit [ inl e ↦ inl (sym e) | inr e ↦ inr (sym e.0) ])
    ]

    module _ (order : List ℕ) (full : IsFullOrder g order) where
      -- a reachable line other than line 0 is in the order
      ordered : (x : ℕ) → IsReached g.arcs x → x ≢ 0 → IsAmong order x
      ordered x r n = (among-in order x).1 ((full.exact x).1 (elim (eqb_tells (x + 1) (length g.nodes)) [ inl last ↦ inr last.1 | inr inner ↦ inl (r, n, inner.1) ]))

      -- what is in the order is a line other than line 0
      in_order : (x : ℕ) → IsAmong order x → (x < length g.nodes) × (x ≢ 0)
      in_order x i =
          let two = formed.some_nodes in
          elim ((full.exact x).0 ((among-in order x).0 i)) [ inl inner ↦ (reached-low x inner.0, inner.1) | inr last ↦ (omega arith, λ z. omega arith) ]

      pub routes-fit : (ends : List Ends) → ends ≡ map ends_along routes → (count : ℕ) → count ≡ length g.nodes → FitsArcs (count + 2) ends order 0 (count ∷ (count + 1) ∷ [])
      routes-fit ends e count size = record {
        arcs_below = λ k i j a.
            let r = route_at ends e k i j a in
            let t = reached-low i r.0 in (
              omega arith,
              elim (head_of i j r) [ inl target ↦ elim target [ inl s ↦ omega arith | inr s ↦ omega arith ] | inr inner ↦ let h = reached-low j inner.0 in omega arith ],
            );
        order_below = λ x i. let l = (in_order x i).0 in omega arith;
        start_below = omega arith;
        targets_below = λ x i. elim i [ inl s ↦ omega arith | inr o ↦ elim o [ inl s ↦ omega arith | inr n ↦ absurd n ] ];
        targets_differ = (λ i. elim i [ inl s ↦ omega arith | inr n ↦ n ], (λ n. n, tt));
        order_differs = differ-differ order full.once;
        start_no_target = λ i. let two = formed.some_nodes in elim i [ inl s ↦ omega arith | inr o ↦ elim o [ inl s ↦ omega arith | inr n ↦ n ] ];
        start_not_in_order = λ i. (in_order 0 i).1 refl;
        targets_not_in_order = λ t i o. let l = (in_order t o).0 in elim i [ inl s ↦ omega arith | inr k ↦ elim k [ inl s ↦ omega arith | inr n ↦ n ] ];
        heads = λ k i j a. elim (head_of i j (route_at ends e k i j a)) [
          | inl target ↦ inl (elim target [ inl s ↦ inl (size ∙ s) | inr s ↦ inr (inl (ap (λ c. c + 1) size ∙ s)) ])
          | inr inner ↦ inr (ordered j inner.0 inner.1)
        ];
        tails = λ k i j a. let r = route_at ends e k i j a in elim (eqb_tells i 0) [ inl first ↦ inl first.1 | inr other ↦ inr (ordered i r.0 other.1) ];
      }

    module _ (group : List ℕ) (few : length group ≤ 9) (entries : List (Entry BitRelation)) (ends : ends_of entries ≡ map ends_along routes)
        (each : EachCarries g.nodes group entries) where
      -- an entry's edge is a route
      edges : (x m : ℕ) → IsEdge entries x m ↔ (IsReached g.arcs x × (Joins g.arcs x m ⊎ IsExit g (record { tail = x; head = m })))
      edges x m = (
        λ h. (exact _).0 (there h),
        λ h. back (IsIn-from_map (λ (e : Entry BitRelation). record { tail = e.tail; head = e.head }) entries _
            (subst (λ s. IsIn s (record { tail = x; head = m })) (sym ends) (IsIn-map ends_along routes (record { tail = x; head = m }) ((exact _).1 h)))),
      )
        where
          there : IsEdge entries x m → IsIn routes (record { tail = x; head = m })
          there h =
              let i = subst (λ s. IsIn s (record { tail = h.0.tail; head = h.0.head })) ends (IsIn-map (λ (e : Entry BitRelation). record { tail = e.tail; head = e.head }) entries h.0 h.1) in
              let r = IsIn-from_map ends_along routes _ i in
              let it : ◌≡◌ {A = Arc} r.0 (record { tail = x; head = m }) =
              ap (λ (s : Ends). record { tail = s.tail; head = s.head }) r.2 ∙ ap (λ t. record { tail = t; head = h.0.head }) h.2 ∙ ap (λ k. record { tail = x; head = k }) h.3 in
              subst (IsIn routes) it r.1

          back : ((e : Entry BitRelation) × IsIn entries e × (◌≡◌ {A = Ends} (record { tail = e.tail; head = e.head }) (record { tail = x; head = m }))) → IsEdge entries x m
          back h = (h.0, h.1, ap (λ (s : Ends). s.tail) h.2, ap (λ (s : Ends). s.head) h.2)

      -- what paths to a target join, the events along some walk lead to
      pub sums-to : (z : ℕ) → length g.nodes ≤ z → (slot v : ℕ) → slice_get group slot ≡ Some v → (p q : Point)
          → PathJoins (λ a. a < 66) bits.Joins entries 0 z (slot * 7 + number p) (slot * 7 + number q)
          ↔ ((y : ℕ) × IsExit g (record { tail = y; head = z }) × ((lines : List ℕ) × IsWalk (Joins g.arcs) 0 lines y × Leads (events_along g.nodes v (0 ∷ lines)) p q))
      sums-to z far slot v there p q =
          let R = Carries g.nodes group (length group) in
          let a = slot * 7 + number p in
          let b = slot * 7 + number q in
          let trails = paths-are_trails (λ a. a < 66) bits.Joins entries R (λ e i x y. each e i x y) 0 z a b in
          let walks = trails-are_walks (Joins g.arcs) (λ y m. IsExit g (record { tail = y; head = m })) (IsEdge entries) (IsReached g.arcs) (length g.nodes) reached-low reach_on out edges
          (λ tails. Through (λ a. a < 66) R tails a b) 0 z start far in (
            λ h. let w = walks.0 (trails.0 h) in (w.0, w.1, (w.2.0, w.2.1, (through-leads g.nodes group few slot v there (0 ∷ w.2.0) p q).0 w.2.2)),
            λ w. trails.1 (walks.1 (w.0, w.1, (w.2.0, w.2.1, (through-leads g.nodes group few slot v there (0 ∷ w.2.0) p q).1 w.2.2))),
          )
        where
          out : (x m : ℕ) → IsExit g (record { tail = x; head = m }) → length g.nodes ≤ m
          out x m e = elim e [ inl s ↦ omega arith | inr s ↦ let k = s.0 in omega arith ]

      -- the values of the two targets are the sums of the walks
      pub sums-right : (count : ℕ) → count ≡ length g.nodes → (values slice : List BitRelation) (d e : BitRelation) → slice ≡ values
          → AnswersJoin (λ a. a < 66) bits.Joins entries 0 (count ∷ (count + 1) ∷ []) values → AreSums g group (get_or slice 0 d) (get_or slice 1 e)
      sums-right count size values slice d e same answers =
          let within : length values ≡ 2 = answers.size in
          let first = slice_get-get_or values 0 d (omega arith) in
          let second = slice_get-get_or values 1 e (omega arith) in
          subst (λ s. AreSums g group (get_or s 0 d) (get_or s 1 e)) (sym same) (record {
            anywhere = λ slot v there p q.
                let n = answers.each 0 count (get_or values 0 d) refl first (slot * 7 + number p) (slot * 7 + number q) in
                let s = sums-to count (omega arith) slot v there p q in (
                  λ h. let w = s.0 (n.0 h) in (w.0, w.2),
                  λ h. n.1 (s.1 (h.0, inl size, h.1)),
                );
            at_end = λ slot v there p q.
                let n = answers.each 1 (count + 1) (get_or values 1 e) refl second (slot * 7 + number p) (slot * 7 + number q) in
                let s = sums-to (count + 1) (omega arith) slot v there p q in (
                  λ h. let w = s.0 (n.0 h) in (w.0, elim w.1 [ inl f ↦ absurd (omega arith) | inr f ↦ f.1 ], w.2),
                  λ h. n.1 (s.1 (h.0, inr (ap (λ c. c + 1) size, h.1), h.2)),
                );
          })
