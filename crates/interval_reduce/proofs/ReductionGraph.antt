-- The reduction theorem for the graph of a procedure, with the order of its inner lines.
use Rattle.std.proofs.Common.{◌≡◌, ◌≢◌, inl, inr, refl, sym, ◌∙◌, ap, subst, ℕ, ◌+◌, Bool, true, false, List, [], ◌∷◌, ◌++◌, length, cond, arith}
use Rattle.std.specs.Prelude.{◌↔◌, not, nat_eq, filter}
use Rattle.std.specs.List.{flat_map}
use Rattle.std.proofs.lemmas.Bool.Decides.{eqb_tells}
use Rattle.il_core.specs.LineGraph.{IsIn}
use Rattle.flow_graph.specs.Graph.{Joins, IsWellFormed, arc_to}
use Rattle.flow_graph.specs.Search.{IsWalk, Reaches}
use Rattle.flow_graph.specs.Meeting.{Meets}
use Rattle.flow_graph.specs.Reached.{IsReached, IsInner, IsInnerOrder, Differ}
use Rattle.flow_graph.specs.declared.graph.FlowGraph.{FlowGraph}
use Rattle.flow_graph.proofs.Spreading.{walk_on, walk_along}
use Rattle.control_flow.specs.Cycle.{HasTwiceEntered, IsTwiceEntered, IsReducible}
use Rattle.control_flow.specs.Control.{IsShape}
use Rattle.control_flow.specs.declared.control.Shape.{Shape}
use Rattle.interval_reduce.specs.declared.interval.Interval.{Interval}
use Rattle.interval_reduce.specs.declared.interval.Derivation.{Derivation}
use Rattle.interval_reduce.specs.Derivation.{AreLevelsOf, EndsInOne, order_of, order_by, IsDerivationOf, Reduces}
use Rattle.control_flow.proofs.Walks.{walk_join, met_inside, met_walk}
use Rattle.interval_reduce.proofs.ReductionWalks.{walk_from}
use Rattle.interval_reduce.proofs.ReductionDown.{last_arc}
use Rattle.interval_reduce.proofs.Dominance.{Good}
use Rattle.interval_reduce.proofs.Reduction.{reduction}
use Rattle.interval_reduce.proofs.Order.{taken_of, TakesAll, ordered}

-- an arc that leaves a reached line
abbrev pub Onward : (ℕ → ℕ → Type 0) → ℕ → ℕ → Type 0
Onward E a b = E a b × Reaches E 0 a

module _ (E : ℕ → ℕ → Type 0) where
  reached_on : (a b : ℕ) → Reaches E 0 a → E a b → Reaches E 0 b
  reached_on a b r e = (r.0 ++ b ∷ [], walk_on E 0 r.0 a b r.1 e)

  -- walks from reached lines are along such arcs
  onward : (a : ℕ) (lines : List ℕ) (b : ℕ) → Reaches E 0 a → IsWalk E a lines b → IsWalk (Onward E) a lines b
  onward a [] b r w = w
  onward a (c ∷ rest) b r w = ((w.0, r), onward c rest b (reached_on a c r w.0) w.1)

  meets_onward : (P : ℕ → Type 0) (a : ℕ) (lines : List ℕ) (x : ℕ) → Reaches E 0 a → Meets E P a lines x → Meets (Onward E) P a lines x
  meets_onward P a [] x r m = m
  meets_onward P a (c ∷ rest) x r m = (m.0, (m.1, r), meets_onward P c rest x (reached_on a c r m.1) m.2)

  meets_back : (P : ℕ → Type 0) (a : ℕ) (lines : List ℕ) (x : ℕ) → Meets (Onward E) P a lines x → Meets E P a lines x
  meets_back P a [] x m = m
  meets_back P a (c ∷ rest) x m = (m.0, m.1.0, meets_back P c rest x m.2)

  twice_back : HasTwiceEntered (Onward E) 0 → HasTwiceEntered E 0
  twice_back h = by_parts h.0 h.1 h.2 h.3 h.4
    where
      by_parts : (a b : ℕ) (lines : List ℕ) → IsWalk (Onward E) a (b ∷ lines) a → IsTwiceEntered (Onward E) 0 (a ∷ b ∷ lines) → HasTwiceEntered E 0
      by_parts a b lines w t = (
        a,
        b,
        lines,
        walk_along (Onward E) E (λ x y e. e.0) a (b ∷ lines) a w,
        (t.0, t.1, (t.2.0, meets_back (IsIn (a ∷ b ∷ lines)) 0 t.2.0 t.0 t.2.1), (t.3.0, meets_back (IsIn (a ∷ b ∷ lines)) 0 t.3.0 t.1 t.3.1), t.4),
      )

  -- a twice entered cycle is reached
  twice_onward : HasTwiceEntered E 0 → HasTwiceEntered (Onward E) 0
  twice_onward h = by_parts h.0 h.1 h.2 h.3 h.4
    where
      by_parts : (a b : ℕ) (lines : List ℕ) → IsWalk E a (b ∷ lines) a → IsTwiceEntered E 0 (a ∷ b ∷ lines) → HasTwiceEntered (Onward E) 0
      by_parts a b lines w t =
          let P : ℕ → Type 0 = IsIn (a ∷ b ∷ lines) in
          let back = walk_from E a (b ∷ lines) a t.0 w (met_inside E P 0 t.2.0 t.0 t.2.1) in
          let start : Reaches E 0 a = (t.2.0 ++ back.0, walk_join E 0 t.2.0 t.0 back.0 a (met_walk E P 0 t.2.0 t.0 t.2.1) back.1) in (
            a,
            b,
            lines,
            onward a (b ∷ lines) a start w,
            (t.0, t.1, (t.2.0, meets_onward P 0 t.2.0 t.0 ([], refl) t.2.1), (t.3.0, meets_onward P 0 t.3.0 t.1 ([], refl) t.3.1), t.4),
          )

-- the reached lines of a well formed graph
pub good_lines : (g : FlowGraph) → IsWellFormed g → Good (length g.nodes) (IsReached g.arcs) (Onward (Joins g.arcs))
good_lines g f = record {
  first = ([], refl);
  reached = λ v r. (r.0, onward (Joins g.arcs) 0 r.0 v ([], refl) r.1);
  joined = λ u v e. (e.1, reached_on (Joins g.arcs) u v e.1 e.0);
  none_in = λ u e. (f.arcs (arc_to u 0) e.0).enters_no_start refl;
  no_self = λ u e. (f.arcs (arc_to u u) e.0).goes_elsewhere refl;
  below = λ v r. elim (last_arc (Joins g.arcs) 0 r.0 v r.1) [ inl e ↦ rw (← e) (let s = f.some_nodes in omega arith) | inr t ↦ (f.arcs (arc_to t.0 v) t.1).head_inside ];
}

-- a filter keeps the members that pass, each as often as it stands
kept_by : (p : ℕ → Bool) (x : ℕ) (xs : List ℕ) (v : ℕ) (b : Bool) → p x ≡ b → (IsIn (filter p xs) v → IsIn xs v × (p v ≡ true))
    → IsIn (cond b (x ∷ filter p xs) (filter p xs)) v → IsIn (x ∷ xs) v × (p v ≡ true)
kept_by p x xs v true e later (inl s) = (inl s, rw (← s) e)
kept_by p x xs v true e later (inr i) = let t = later i in (inr t.0, t.1)
kept_by p x xs v false e later i = let t = later i in (inr t.0, t.1)

kept : (p : ℕ → Bool) (xs : List ℕ) (v : ℕ) → IsIn (filter p xs) v → IsIn xs v × (p v ≡ true)
kept p [] v h = absurd h
kept p (x ∷ xs) v h = kept_by p x xs v (p x) refl (kept p xs v) h

keeps_by : (p : ℕ → Bool) (x : ℕ) (xs : List ℕ) (v : ℕ) (b : Bool) → p x ≡ b → (IsIn xs v → IsIn (filter p xs) v) → IsIn (x ∷ xs) v → p v ≡ true
    → IsIn (cond b (x ∷ filter p xs) (filter p xs)) v
keeps_by p x xs v true e later (inl s) t = inl s
keeps_by p x xs v true e later (inr i) t = inr (later i)
keeps_by p x xs v false e later (inl s) t = absurd (let f : p x ≡ true = rw s t in cc)
keeps_by p x xs v false e later (inr i) t = later i

keeps : (p : ℕ → Bool) (xs : List ℕ) (v : ℕ) → IsIn xs v → p v ≡ true → IsIn (filter p xs) v
keeps p [] v h t = h
keeps p (x ∷ xs) v h t = keeps_by p x xs v (p x) refl (λ i. keeps p xs v i t) h t

differ_by : (p : ℕ → Bool) (x : ℕ) (xs : List ℕ) (b : Bool) → (IsIn xs x → ⊥) → Differ (filter p xs) → Differ (cond b (x ∷ filter p xs) (filter p xs))
differ_by p x xs true n d = ((λ h. n (kept p xs x h).0), d)
differ_by p x xs false n d = d

kept_differ : (p : ℕ → Bool) (xs : List ℕ) → Differ xs → Differ (filter p xs)
kept_differ p [] d = d
kept_differ p (x ∷ xs) d = differ_by p x xs (p x) d.0 (kept_differ p xs d.1)

-- the test for all lines but the last of n
passes : (n v : ℕ) → v + 1 ≢ n → not (nat_eq (v + 1) n) ≡ true
passes n v ne = elim (eqb_tells (v + 1) n) [ inl e ↦ absurd (ne e.1) | inr o ↦ rw o.0 ]

passed : (n v : ℕ) → not (nat_eq (v + 1) n) ≡ true → v + 1 ≢ n
passed n v t e = elim (eqb_tells (v + 1) n) [ inl s ↦ absurd (let f = rw s.0 at t in cc) | inr o ↦ o.1 e ]

-- the order of a reducible graph has each inner line once
inner_order : (g : FlowGraph) (levels : List (List Interval)) (order : List ℕ) → TakesAll (IsReached g.arcs) (flat_map taken_of levels)
    → order ≡ order_of (length g.nodes) levels → IsInnerOrder g order
inner_order g levels order t e = subst (IsInnerOrder g) (sym e) (record {
  once = kept_differ test (flat_map taken_of levels) t.differ;
  exact = λ k. (there k, back k);
})
  where
    test : ℕ → Bool
    test v = not (nat_eq (v + 1) (length g.nodes))

    there : (k : ℕ) → IsIn (filter test (flat_map taken_of levels)) k → IsInner g k
    there k h =
        let a = kept test (flat_map taken_of levels) k h in
        let b = (t.exact k).0 a.0 in
        (b.0, b.1, passed (length g.nodes) k a.1)

    back : (k : ℕ) → IsInner g k → IsIn (filter test (flat_map taken_of levels)) k
    back k i = keeps test (flat_map taken_of levels) k ((t.exact k).1 (i.0, i.1)) (passes (length g.nodes) k i.2)

-- the levels of a graph end with one interval exactly where it is reducible
ends : (g : FlowGraph) (levels : List (List Interval)) → IsWellFormed g → AreLevelsOf g levels → EndsInOne levels ↔ IsReducible (Joins g.arcs) 0
ends g [] f are = absurd are
ends g (level ∷ rest) f are =
    let r = reduction (length g.nodes) (IsReached g.arcs) (Onward (Joins g.arcs)) level rest (good_lines g f) are in
    ((λ one h. r.0 one (twice_onward (Joins g.arcs) h)), λ reducible. r.1 (λ h. reducible (twice_back (Joins g.arcs) h)))

takes_all : (g : FlowGraph) (levels : List (List Interval)) → IsWellFormed g → AreLevelsOf g levels → EndsInOne levels → TakesAll (IsReached g.arcs) (flat_map taken_of levels)
takes_all g [] f are one = absurd are
takes_all g (level ∷ rest) f are one = ordered (length g.nodes) (IsReached g.arcs) (Onward (Joins g.arcs)) level rest (good_lines g f) are one

-- the reduction theorem
pub reduces : (g : FlowGraph) (shape : Shape) (d : Derivation) → IsWellFormed g → IsShape g shape → IsDerivationOf g shape d → Reduces g shape d
reduces g shape d f is of = record {
  one = ends g d.levels f of.levels;
  each_once = λ e. inner_order g d.levels d.order (takes_all g d.levels f of.levels ((ends g d.levels f of.levels).1 (subst (IsShape g) e is)))
      (of.order ∙ ap (λ (s : Shape). order_by (length g.nodes) s d.levels) e);
}
