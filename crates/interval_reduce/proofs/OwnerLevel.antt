-- A level of a graph: its intervals hold all nodes, its next level is a graph of the same kind, and not all are single nodes where
-- some node has one predecessor alone.
use Rattle.std.proofs.Common.{◌≡◌, ◌≢◌, inl, inr, refl, sym, ◌∙◌, subst, ℕ, List, [], ◌∷◌, ◌++◌, length, append_assoc, arith}
use Rattle.il_core.specs.LineGraph.{IsIn}
use Rattle.flow_graph.specs.Search.{IsWalk, Reaches}
use Rattle.flow_graph.proofs.Members.{IsIn-append_cases, IsIn-append_left}
use Rattle.flow_graph.proofs.Spreading.{walk_keeps}
use Rattle.interval_reduce.specs.declared.interval.Interval.{Interval}
use Rattle.interval_reduce.specs.Interval.{Takes, IsIntervalOf}
use Rattle.interval_reduce.specs.Level.{MayBeHead, GoesOn, IsLevel, heads_of, owner, NextArc, AreSingle}
use Rattle.interval_reduce.proofs.ReductionLists.{same_or_not, is_in_or_not}
use Rattle.interval_reduce.proofs.Dominance.{Good}
use Rattle.interval_reduce.proofs.ReductionUp.{Parted, image, crossing}
use Rattle.interval_reduce.proofs.Owner.{nodes_of, only_one, place, intervals_of, Shared, shared_all}

module _ (n : ℕ) (N : ℕ → Type 0) (E : ℕ → ℕ → Type 0) (good : Good n N E) where
  -- where no node may be a head, all nodes are in intervals
  closed : (earlier : List ℕ) → ((v : ℕ) → MayBeHead N E earlier v → ⊥) → IsIn earlier 0 → (v : ℕ) → N v → IsIn earlier v
  closed earlier none start v node =
      let w = good.reached v node in
      walk_keeps E (IsIn earlier) keeps 0 w.0 v w.1 start
    where
      keeps : (a b : ℕ) → IsIn earlier a → E a b → IsIn earlier b
      keeps a b h e = elim (is_in_or_not earlier b) [
        | inl i ↦ i
        | inr o ↦ absurd (none b (record { node = (good.joined a b e).1; outside = o; «from» = a; inside = h; arc = e }))
      ]

  covers : (earlier : List ℕ) (rest : List Interval) → GoesOn N E earlier rest → IsIn earlier 0 → (v : ℕ) → N v → IsIn (earlier ++ nodes_of rest) v
  covers earlier [] g start v node = IsIn-append_left earlier [] v (closed earlier g start v node)
  covers earlier (i ∷ rest) g start v node =
      subst (λ (xs : List ℕ). IsIn xs v) (append_assoc earlier i.members (nodes_of rest))
      (covers (earlier ++ i.members) rest g.2 (IsIn-append_left earlier i.members 0 start) v node)

  -- a head is a member of its interval
  pub head_in : (earlier : List ℕ) (h : ℕ) (members : List ℕ) → IsIntervalOf N E earlier h members → IsIn members h
  head_in earlier h members i = rw i.1 (inl refl)

  module _ (level : List Interval) (is : IsLevel N E level) where
    pub covered : (v : ℕ) → N v → IsIn (nodes_of level) v
    covered = of_level level is
      where
        of_level : (l : List Interval) → IsLevel N E l → (v : ℕ) → N v → IsIn (nodes_of l) v
        of_level [] k v node = absurd k
        of_level (i ∷ rest) k v node = covers i.members rest k.2 (head_in [] 0 i.members k.1) v node

    pub starts : IsIn (heads_of level) 0
    starts = of_level level is
      where
        of_level : (l : List Interval) → IsLevel N E l → IsIn (heads_of l) 0
        of_level [] k = absurd k
        of_level (i ∷ rest) k = inl k.0

    pub shared : Shared N E [] level
    shared = shared_all N E [] level (intervals_of N E level good.first is)

    -- each node belongs to the head of its interval
    pub parted : Parted N E (owner level) (place level)
    parted = record {
      entered = λ v m. elim (shared.entered v (covered v m)) [ inl e ↦ inl e | inr f ↦ inr (λ u e. let t = f u e in (t.1, t.2)) ];
      owned = λ v m. shared.nodes (owner level v) (shared.heads (owner level v) (shared.owned v (covered v m))).0;
      kept = λ v m. (shared.heads (owner level v) (shared.owned v (covered v m))).1;
      first = (shared.heads 0 starts).1;
    }

    -- the next level is a graph of the same kind
    pub good_next : Good n (IsIn (heads_of level)) (NextArc E level)
    good_next = record {
      first = starts;
      reached = λ v h. let t = shared.heads v h in reach v t.1 (good.reached v (shared.nodes v t.0));
      joined = λ a b l. let j = good.joined l.1 l.2 l.3 in
          (rw (← l.4) (shared.owned l.1 (covered l.1 j.0)), rw (← l.5) (shared.owned l.2 (covered l.2 j.1)));
      none_in = λ a l. good.none_in l.1 (subst (λ (v : ℕ). E l.1 v) (crossing n N E (owner level) (place level) good parted l.1 l.2 l.3 (λ e. l.0 (sym l.4 ∙ e ∙ l.5)) ∙ l.5) l.3);
      no_self = λ a l. l.0 refl;
      below = λ v h. good.below v (shared.nodes v (shared.heads v h).0);
    }
      where
        reach : (v : ℕ) → owner level v ≡ v → Reaches E 0 v → Reaches (NextArc E level) 0 v
        reach v o w =
            let t = image n N E (owner level) (place level) good parted 0 w.0 v w.1 in
            (t.0, subst (λ (x : ℕ). IsWalk (NextArc E level) x t.0 v) parted.first (subst (λ (x : ℕ). IsWalk (NextArc E level) (owner level 0) t.0 x) o t.1))

    -- the nodes of one interval belong to one head
    pub all_one : length level ≡ 1 → (u v : ℕ) → N u → N v → owner level u ≡ owner level v
    all_one one u v a b = only_one level (owner level u) (owner level v) one (shared.owned u (covered u a)) (shared.owned v (covered v b))

  -- a member of a single interval is its head
  only_head : (earlier : List ℕ) (h : ℕ) (members : List ℕ) → IsIntervalOf N E earlier h members → length members ≡ 1 → (k : ℕ) → IsIn members k → k ≡ h
  only_head earlier h members i one k m = by_others i.0 (rw i.1 at one) (rw i.1 at m)
    where
      by_others : (others : List ℕ) → length (h ∷ others) ≡ 1 → IsIn (h ∷ others) k → k ≡ h
      by_others [] e (inl s) = sym s
      by_others [] e (inr x) = absurd x
      by_others (y ∷ ys) e j = absurd (omega arith)

  module _ (s v : ℕ) (node : N v) (other : s ≢ v) (only : (u : ℕ) → E u v → u ≡ s) where
    -- a single interval is not that of the only predecessor
    not_before : (earlier : List ℕ) (members : List ℕ) → IsIntervalOf N E earlier s members → length members ≡ 1 → (IsIn earlier v → ⊥) → ⊥
    not_before earlier members i one out = by_others i.0 (rw i.1 at one) i.2
      where
        by_others : (others : List ℕ) → length (s ∷ others) ≡ 1 → Takes N E earlier (s ∷ []) others → ⊥
        by_others [] e t = t v (record { node = node; not_earlier = out; not_taken = λ h. elim h [ inl e ↦ other e | inr x ↦ x ]; entered_inside = λ u a. inl (sym (only u a)) })
        by_others (y ∷ ys) e t = omega arith

    lone : (earlier : List ℕ) (rest : List Interval) → GoesOn N E earlier rest → AreSingle rest → IsIn earlier 0 → (IsIn earlier s → ⊥) → (IsIn earlier v → ⊥) → ⊥
    lone earlier [] g single start no_s no_v = no_v (closed earlier g start v node)
    lone earlier (i ∷ rest) g single start no_s no_v = elim (same_or_not s i.head) [
      | inl e ↦ not_before earlier i.members (subst (λ (x : ℕ). IsIntervalOf N E earlier x i.members) (sym e) g.1) (single i (inl refl)) no_v
      | inr a ↦ elim (same_or_not v i.head) [
        | inl e ↦ no_s (subst (IsIn earlier) (only g.0.0.«from» (subst (E g.0.0.«from») (sym e) g.0.0.arc)) g.0.0.inside)
        | inr b ↦ lone (earlier ++ i.members) rest g.2 (λ j h. single j (inr h)) (IsIn-append_left earlier i.members 0 start) (outside s no_s a) (outside v no_v b)
      ]
    ]
      where
        outside : (k : ℕ) → (IsIn earlier k → ⊥) → k ≢ i.head → IsIn (earlier ++ i.members) k → ⊥
        outside k out ne h = elim (IsIn-append_cases earlier i.members k h) [ inl j ↦ out j | inr j ↦ ne (only_head earlier i.head i.members g.1 (single i (inl refl)) k j) ]

    -- so not all intervals of a level are single nodes
    pub not_single : (level : List Interval) → IsLevel N E level → AreSingle level → v ≢ 0 → ⊥
    not_single [] is single later = is
    not_single (i ∷ rest) is single later = elim (same_or_not s 0) [
      | inl e ↦ not_before [] i.members (subst (λ (x : ℕ). IsIntervalOf N E [] x i.members) (sym e) is.1) (single i (inl refl)) (λ h. h)
      | inr a ↦ lone i.members rest is.2 (λ j h. single j (inr h)) (head_in [] 0 i.members is.1)
          (λ h. a (only_head [] 0 i.members is.1 (single i (inl refl)) s h)) (λ h. later (only_head [] 0 i.members is.1 (single i (inl refl)) v h))
    ]
