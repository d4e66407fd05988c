-- A breadth-first search, layer by layer: what one row does, what a layer does, and that the distances are exact once a layer is empty.
use Rattle.std.proofs.Common.{◌≡◌, ◌⊎◌, inl, inr, refl, sym, ap, subst, ◌∙◌, ℕ, zero, suc, ◌+◌, ◌<◌, ◌≤◌, Bool, true, false, cond, Option, Some, None, List, [], ◌∷◌, ◌++◌, length, take, set, get_or, replicate, arith, get_or-set_same, get_or-set_other}
use Rattle.std.specs.Prelude.{◌↔◌, is_none}
use Rattle.std.specs.List.{count_by}
use Rattle.std.proofs.lemmas.Bool.{cases_lt, false≢true}
use Rattle.std.proofs.lemmas.Bool.Decides.{eqb_tells}
use Rattle.std.proofs.lemmas.List.{length-set, length_push}
use Rattle.std.proofs.lemmas.List.Sums.{sum_by-set, count_by-le-length}
use Rattle.std.proofs.lemmas.Option.{same_Some}
use Rattle.il_core.specs.LineGraph.{IsIn}
use Rattle.flow_graph.specs.declared.graph.Arc.{Arc}
use Rattle.flow_graph.specs.declared.graph.FlowGraph.{FlowGraph}
use Rattle.flow_graph.specs.Graph.{Joins, arc_to, tails_into, IsWellFormed}
use Rattle.flow_graph.specs.Search.{StayBelow, row_of}
use Rattle.flow_graph.proofs.Members.{IsIn-append_left, IsIn-push, IsIn-push_cases, IsIn-more_cases, IsIn-more_old, IsIn-more_new}
use Rattle.flow_graph.proofs.LineArcs.{tails_into-Joins, Joins-from_tails}
use Rattle.flow_slice.specs.Distance.{distance_at, HasDistance, AreDistances}
use Rattle.flow_slice.specs.Layer.{Spread, IsBehind}
use Rattle.flow_slice.proofs.Nearest.{IsAway, away_of, leads_of}

-- no line has a distance at the start
none_there : (n k m : ℕ) → distance_at (replicate n None) k ≡ Some m → ⊥
none_there zero k m e = cc
none_there (suc n) zero m e = cc
none_there (suc n) (suc k) m e = none_there n k m e

pub spread_start : (n : ℕ) (was : List (Option ℕ)) (before : List ℕ) → Spread (IsIn []) n was was before before
spread_start n was before = record {
  size = refl;
  kept = λ k m e. e;
  every = λ k h. absurd h;
  from = λ k m e. inl e;
  stay = λ k h. h;
  added = λ k h. inl h;
  left = refl;
}

-- a line that has a distance changes nothing
pub spread_skip : (row : List ℕ) (i d n : ℕ) (was now : List (Option ℕ)) (before after : List ℕ) → i < length row → is_none (distance_at now (get_or row i d)) ≡ false
    → Spread (IsIn (take i row)) n was now before after → Spread (IsIn (take (i + 1) row)) n was now before after
spread_skip row i d n was now before after l there w = record {
  size = w.size;
  kept = w.kept;
  every = λ k h. elim (IsIn-more_cases row i d k l h) [ inl old ↦ w.every k old | inr same ↦ rw (← same) (is_there (distance_at now (get_or row i d)) there) ];
  from = λ k m e. elim (w.from k m e) [ inl old ↦ inl old | inr new ↦ inr (new.0, IsIn-more_old row i d k l new.1, new.2) ];
  stay = w.stay;
  added = w.added;
  left = w.left;
}
  where
    is_there : (o : Option ℕ) → is_none o ≡ false → (m : ℕ) × (o ≡ Some m)
    is_there None e = absurd (cc)
    is_there (Some m) e = (m, refl)

-- the entries after one is set
entry_new : (now : List (Option ℕ)) (x n : ℕ) → x < length now → distance_at (set now x (Some n)) x ≡ Some n
entry_new now x n l = get_or-set_same now x (Some n) None l

entry_cases : (now : List (Option ℕ)) (x n k m : ℕ) → x < length now → distance_at (set now x (Some n)) k ≡ Some m
    → ((x ≡ k) × (m ≡ n)) ⊎ (distance_at now k ≡ Some m)
entry_cases now x n k m l e = elim (eqb_tells k x) [
  | inl same ↦ let f : Some n ≡ Some m = sym (entry_new now x n l) ∙ rw same.1 at e in inl (sym same.1, same_Some m n (sym f))
  | inr other ↦ inr (sym (get_or-set_other now x k (Some n) None other.1) ∙ e)
]

entry_kept : (now : List (Option ℕ)) (x n k m : ℕ) → is_none (distance_at now x) ≡ true → distance_at now k ≡ Some m → distance_at (set now x (Some n)) k ≡ Some m
entry_kept now x n k m none e = elim (eqb_tells k x) [
  | inl same ↦
      let there : distance_at now x ≡ Some m = rw same.1 at e in
      absurd (false≢true (rw there at none))
  | inr other ↦ get_or-set_other now x k (Some n) None other.1 ∙ e
]

-- a line that has none gets it
pub spread_more : (row : List ℕ) (i d n : ℕ) (was now : List (Option ℕ)) (before after : List ℕ) → i < length row → get_or row i d < length now
    → is_none (distance_at now (get_or row i d)) ≡ true → Spread (IsIn (take i row)) n was now before after
    → Spread (IsIn (take (i + 1) row)) n was (set now (get_or row i d) (Some n)) before (after ++ get_or row i d ∷ [])
spread_more row i d n was now before after l inside none w = record {
  size = length-set now x (Some n) ∙ w.size;
  kept = λ k m e. entry_kept now x n k m none (w.kept k m e);
  every = λ k h. elim (IsIn-more_cases row i d k l h) [
    | inl old ↦ let t = w.every k old in (t.0, entry_kept now x n k t.0 none t.1)
    | inr same ↦ (n, rw (← same) (entry_new now x n inside))
  ];
  from = λ k m e. elim (entry_cases now x n k m inside e) [
    | inl new ↦ inr (new.1, rw (← new.0) (IsIn-more_new row i d l), rw (← new.0) (IsIn-push after x))
    | inr there ↦ elim (w.from k m there) [ inl old ↦ inl old | inr t ↦ inr (t.0, IsIn-more_old row i d k l t.1, IsIn-append_left after (x ∷ []) k t.2) ]
  ];
  stay = λ k h. IsIn-append_left after (x ∷ []) k (w.stay k h);
  added = λ k h. elim (IsIn-push_cases after x k h) [
    | inl old ↦ elim (w.added k old) [ inl b ↦ inl b | inr e ↦ inr (entry_kept now x n k n none e) ]
    | inr same ↦ inr (rw (← same) (entry_new now x n inside))
  ];
  left = count;
}
  where
    x : ℕ
    x = get_or row i d

    count : count_by is_none (set now (get_or row i d) (Some n)) + length (after ++ get_or row i d ∷ []) ≡ count_by is_none was + length before
    count =
        let s = sum_by-set (λ o. cond (is_none o) 1 0) now (get_or row i d) (Some n) None inside in
        let t = rw none at s in
        let p = length_push after (get_or row i d) in
        omega (arith, t, p, w.left)

-- two sets, one after the other
pub spread_both : (P Q R : ℕ → Type 0) (n : ℕ) (was mid now : List (Option ℕ)) (before between after : List ℕ) → ((k : ℕ) → R k ↔ (P k ⊎ Q k))
    → Spread P n was mid before between → Spread Q n mid now between after → Spread R n was now before after
spread_both P Q R n was mid now before between after r v w = record {
  size = w.size ∙ v.size;
  kept = λ k m e. w.kept k m (v.kept k m e);
  every = λ k h. elim ((r k).0 h) [ inl p ↦ let t = v.every k p in (t.0, w.kept k t.0 t.1) | inr q ↦ w.every k q ];
  from = λ k m e. elim (w.from k m e) [
    | inr new ↦ inr (new.0, (r k).1 (inr new.1), new.2)
    | inl there ↦ elim (v.from k m there) [ inl old ↦ inl old | inr new ↦ inr (new.0, (r k).1 (inl new.1), w.stay k new.2) ]
  ];
  stay = λ k h. w.stay k (v.stay k h);
  added = λ k h. elim (w.added k h) [
    | inr e ↦ inr e
    | inl there ↦ elim (v.added k there) [ inl b ↦ inl b | inr e ↦ inr (w.kept k n e) ]
  ];
  left = w.left ∙ v.left;
}

-- the rows of no line
pub behind_start : (rows : List (List ℕ)) (n : ℕ) (was : List (Option ℕ)) → Spread (IsBehind rows []) n was was [] []
behind_start rows n was = record {
  size = refl;
  kept = λ k m e. e;
  every = λ k h. absurd h.1;
  from = λ k m e. inl e;
  stay = λ k h. h;
  added = λ k h. inl h;
  left = refl;
}

-- the row of one line more
pub behind_more : (rows : List (List ℕ)) (layer : List ℕ) (i d n : ℕ) (was mid now : List (Option ℕ)) (between after : List ℕ) → i < length layer
    → Spread (IsBehind rows (take i layer)) n was mid [] between → Spread (IsIn (row_of rows (get_or layer i d))) n mid now between after
    → Spread (IsBehind rows (take (i + 1) layer)) n was now [] after
behind_more rows layer i d n was mid now between after l v w =
    spread_both (IsBehind rows (take i layer)) (IsIn (row_of rows (get_or layer i d))) (IsBehind rows (take (i + 1) layer)) n was mid now [] between after both v w
  where
    both : (k : ℕ) → IsBehind rows (take (i + 1) layer) k ↔ (IsBehind rows (take i layer) k ⊎ IsIn (row_of rows (get_or layer i d)) k)
    both k = (
      λ t. elim (IsIn-more_cases layer i d t.0 l t.1) [ inl old ↦ inl (t.0, old, t.2) | inr same ↦ inr (rw same t.2) ],
      λ t. elim t [ inl old ↦ (old.0, IsIn-more_old layer i d old.0 l old.1, old.2) | inr new ↦ (get_or layer i d, IsIn-more_new layer i d l, new) ],
    )

-- the rows of tails name nodes
pub tails_below : (g : FlowGraph) (rows : List (List ℕ)) → IsWellFormed g → length rows ≡ length g.nodes → ((k : ℕ) → row_of rows k ≡ tails_into g.arcs k) → StayBelow (length rows) rows
tails_below g rows w s r = λ a k i. let l = (w.arcs (arc_to k a) (Joins-from_tails g.arcs a k (rw (r a) at i))).tail_inside in omega arith

-- a line with a distance is one of the lines
pub entry_within : (ds : List (Option ℕ)) (k n : ℕ) → distance_at ds k ≡ Some n → k < length ds
entry_within [] k n e = absurd (cc)
entry_within (d ∷ ds) zero n e = omega arith
entry_within (d ∷ ds) (suc k) n e = let l = entry_within ds k n e in omega arith

module _ (arcs : List Arc) (relevant : ℕ → Bool) where
  -- the distances up to n are there, and the layer has the lines at distance n
  pub record Layered (n : ℕ) (ds : List (Option ℕ)) (layer : List ℕ) : Type 0 where
    pub sound : (k m : ℕ) → distance_at ds k ≡ Some m → (m ≤ n) × IsAway arcs relevant m k
    pub whole : (k m : ℕ) → m ≤ n → IsAway arcs relevant m k → (d : ℕ) × (d ≤ m) × (distance_at ds k ≡ Some d)
    pub here : (k : ℕ) → distance_at ds k ≡ Some n → IsIn layer k
    pub at_distance : (k : ℕ) → IsIn layer k → distance_at ds k ≡ Some n
    pub room : n + (count_by is_none ds + length layer) ≤ length ds

  -- the first layer has the relevant lines
  pub layered_start : (count : ℕ) (lines : List ℕ) (ds : List (Option ℕ)) (layer : List ℕ) → ((k : ℕ) → IsIn lines k ↔ (relevant k ≡ true))
      → Spread (IsIn lines) 0 (replicate count None) ds [] layer → Layered 0 ds layer
  layered_start count lines ds layer r w = record {
    sound = λ k m e. elim (w.from k m e) [
      | inl old ↦ absurd (none_there count k m old)
      | inr t ↦ (omega (arith, t.0), subst (λ (x : ℕ). IsAway arcs relevant x k) (sym t.0) ((r k).0 t.1))
    ];
    whole = λ k m l h. let e : m ≡ 0 = omega arith in let t = w.every k ((r k).1 (rw e at h)) in (t.0, low k t.0 t.1 m, t.1);
    here = λ k e. elim (w.from k 0 e) [ inl old ↦ absurd (none_there count k 0 old) | inr t ↦ t.2 ];
    at_distance = λ k h. elim (w.added k h) [ inl b ↦ absurd b | inr e ↦ e ];
    room = let a = w.left in let b = w.size in let c = count_by-le-length is_none (replicate {A = Option ℕ} count None) in omega arith;
  }
    where
      low : (k d : ℕ) → distance_at ds k ≡ Some d → (m : ℕ) → d ≤ m
      low k d e m = elim (w.from k d e) [ inl old ↦ absurd (none_there count k d old) | inr t ↦ omega (arith, t.0) ]

  -- the next layer
  pub layered_more : (rows : List (List ℕ)) (n : ℕ) (was now : List (Option ℕ)) (layer next : List ℕ) → ((k : ℕ) → row_of rows k ≡ tails_into arcs k) → 0 < length layer
      → Layered n was layer → Spread (IsBehind rows layer) (suc n) was now [] next → Layered (suc n) now next
  layered_more rows n was now layer next r some v w = record {
    sound = sound;
    whole = λ k m l h. whole k m h (cases_lt n m) l;
    here = λ k e. elim (w.from k (suc n) e) [ inl old ↦ let l = (v.sound k (suc n) old).0 in absurd (omega arith) | inr t ↦ t.2 ];
    at_distance = λ k h. elim (w.added k h) [ inl b ↦ absurd b | inr e ↦ e ];
    room = let a = w.left in let b = v.room in let c = w.size in omega arith;
  }
    where
      joins : (b k : ℕ) → IsIn (row_of rows b) k → Joins arcs k b
      joins b k i = Joins-from_tails arcs b k (rw (r b) at i)

      sound : (k m : ℕ) → distance_at now k ≡ Some m → (m ≤ suc n) × IsAway arcs relevant m k
      sound k m e = elim (w.from k m e) [
        | inl old ↦ let t = v.sound k m old in (omega (arith, t.0), t.1)
        | inr t ↦ (
          omega (arith, t.0),
          subst (λ (x : ℕ). IsAway arcs relevant x k) (sym t.0) (t.1.0, joins t.1.0 k t.1.2, (v.sound t.1.0 n (v.at_distance t.1.0 t.1.1)).1),
        )
      ]

      old_one : (k m : ℕ) → m ≤ n → IsAway arcs relevant m k → (d : ℕ) × (d ≤ m) × (distance_at now k ≡ Some d)
      old_one k m l h = let t = v.whole k m l h in (t.0, t.1, w.kept k t.0 t.2)

      -- a line from which an arc enters one at a distance
      from_next : (k b d : ℕ) → Joins arcs k b → distance_at was b ≡ Some d → d ≤ n → (c : ℕ) × (c ≤ suc n) × (distance_at now k ≡ Some c)
      from_next k b d j e l = elim (eqb_tells d n) [
        | inl same ↦
            let t = w.every k (b, v.here b (e ∙ ap Some same.1), rw (r b) (tails_into-Joins arcs b k j)) in
            (t.0, (sound k t.0 t.1).0, t.1)
        | inr other ↦
            let n_d = other.1 in
            let t = old_one k (suc d) (omega arith) (b, j, (v.sound b d e).1) in
            (t.0, omega (arith, t.1), t.2)
      ]

      whole : (k m : ℕ) → IsAway arcs relevant m k → (n < m) ⊎ (m ≤ n) → m ≤ suc n → (d : ℕ) × (d ≤ m) × (distance_at now k ≡ Some d)
      whole k m h (inr low) l = old_one k m low h
      whole k zero h (inl high) l = absurd (omega arith)
      whole k (suc m) h (inl high) l =
          let b = v.whole h.0 m (omega arith) h.2 in
          let t = from_next k h.0 b.0 h.1 b.2 (omega (arith, b.1)) in
          (t.0, omega (arith, t.1), t.2)

  pub layered_on : (rows : List (List ℕ)) (n m : ℕ) (was now : List (Option ℕ)) (layer next : List ℕ) → ((k : ℕ) → row_of rows k ≡ tails_into arcs k) → 0 < length layer → m ≡ suc n
      → Layered n was layer → Spread (IsBehind rows layer) m was now [] next → Layered m now next
  layered_on rows n m was now layer next r some e v w =
      rw e (layered_more rows n was now layer next r some v (subst (λ (x : ℕ). Spread (IsBehind rows layer) x was now [] next) e w))

  -- once a layer is empty, each line from which a path leads to a relevant one has a distance
  all_there : (n : ℕ) (ds : List (Option ℕ)) → Layered n ds [] → (m k : ℕ) → IsAway arcs relevant m k → (d : ℕ) × (d ≤ m) × (distance_at ds k ≡ Some d)
  all_there n ds v zero k h = v.whole k 0 (omega arith) h
  all_there n ds v (suc m) k h =
      let b = all_there n ds v m h.0 h.2 in
      let s = v.sound h.0 b.0 b.2 in
      elim (eqb_tells b.0 n) [
        | inl same ↦ absurd (v.here h.0 (b.2 ∙ ap Some same.1))
        | inr other ↦
            let n_d = other.1 in
            let t = v.whole k (suc b.0) (omega (arith, s.0)) (h.0, h.1, s.1) in
            (t.0, omega (arith, t.1, b.1), t.2)
      ]

  pub layered_end : (n count : ℕ) (ds : List (Option ℕ)) → Layered n ds [] → length ds ≡ count → AreDistances (Joins arcs) (λ x. relevant x ≡ true) count ds
  layered_end n count ds v s = record { size = s; each = λ k. by_entry k (distance_at ds k) refl }
    where
      by_entry : (k : ℕ) (o : Option ℕ) → distance_at ds k ≡ o → HasDistance (Joins arcs) (λ x. relevant x ≡ true) k o
      by_entry k None e = λ lines h. let t = all_there n ds v (length lines) k (away_of arcs relevant k lines h) in let f : Some t.0 ≡ None = sym t.2 ∙ e in absurd (cc)
      by_entry k (Some d) e =
          let path = leads_of arcs relevant d k (v.sound k d e).1 in
          record {
            lines = path.0;
            leads = path.1;
            size = path.2;
            least = λ others h. let t = all_there n ds v (length others) k (away_of arcs relevant k others h) in let f : t.0 ≡ d = same_Some t.0 d (sym t.2 ∙ e) in omega (arith, f, t.1);
          }
