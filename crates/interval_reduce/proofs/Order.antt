-- The order of a graph whose levels end with one interval: each node but the first is taken in exactly one level.
use Rattle.std.proofs.Common.{◌≡◌, ◌≢◌, ◌⊎◌, inl, inr, refl, sym, subst, ℕ, List, [], ◌∷◌, ◌++◌, length}
use Rattle.std.specs.Prelude.{◌↔◌, drop}
use Rattle.std.specs.List.{flat_map}
use Rattle.il_core.specs.LineGraph.{IsIn}
use Rattle.flow_graph.specs.Reached.{Differ}
use Rattle.flow_graph.proofs.Members.{IsIn-append_left, IsIn-append_right, IsIn-append_cases}
use Rattle.interval_reduce.specs.declared.interval.Interval.{Interval}
use Rattle.interval_reduce.specs.Level.{IsLevel, AreLevels, last_level, heads_of, NextArc}
use Rattle.interval_reduce.specs.Derivation.{taken}
use Rattle.interval_reduce.proofs.ReductionLists.{Differ-append, Differ-parts}
use Rattle.interval_reduce.proofs.Dominance.{Good}
use Rattle.interval_reduce.proofs.Owner.{nodes_of, only_one, AreIntervals, intervals_of}
use Rattle.interval_reduce.proofs.OwnerLevel.{covered, starts, shared, good_next}

-- what the intervals of a level take
abbrev pub taken_of : List Interval → List ℕ
taken_of level = flat_map taken level

-- the nodes of a level are the heads and what the intervals take, each of which they take once
record Sorted (level : List Interval) : Type 0 where
  headed : (v : ℕ) → IsIn (heads_of level) v → IsIn (nodes_of level) v
  within : (v : ℕ) → IsIn (taken_of level) v → IsIn (nodes_of level) v
  no_head : (v : ℕ) → IsIn (taken_of level) v → IsIn (heads_of level) v → ⊥
  either : (v : ℕ) → IsIn (nodes_of level) v → IsIn (heads_of level) v ⊎ IsIn (taken_of level) v
  differ : Differ (taken_of level)

-- the same of one interval with these members, and of other nodes behind it
record Split (h : ℕ) (members took others : List ℕ) : Type 0 where
  head_in : IsIn members h
  within : (v : ℕ) → IsIn took v → IsIn members v
  no_head : IsIn took h → ⊥
  either : (v : ℕ) → IsIn members v → (h ≡ v) ⊎ IsIn took v
  differ : Differ took
  later : Differ others
  apart : (v : ℕ) → IsIn members v → IsIn others v → ⊥

split : (h : ℕ) (members rest others : List ℕ) → members ≡ h ∷ rest → Differ (members ++ others) → Split h members (drop 1 members) others
split h members rest others e d = subst (λ (m : List ℕ). Split h m (drop 1 m) others) (sym e) (record {
  head_in = inl refl;
  within = λ v i. inr i;
  no_head = t.0.0;
  either = λ v i. i;
  differ = t.0.1;
  later = t.1;
  apart = t.2;
})
  where
    t : Differ (h ∷ rest) × Differ others × ((k : ℕ) → IsIn (h ∷ rest) k → IsIn others k → ⊥)
    t = Differ-parts (h ∷ rest) others (rw e at d)

sorted_more : (i : Interval) (rest : List Interval) → Split i.head i.members (taken i) (nodes_of rest) → Sorted rest → Sorted (i ∷ rest)
sorted_more i rest p s = record {
  headed = λ v h. elim h [ inl e ↦ rw (← e) (IsIn-append_left i.members (nodes_of rest) i.head p.head_in) | inr j ↦ IsIn-append_right i.members (nodes_of rest) v (s.headed v j) ];
  within = λ v h. elim (IsIn-append_cases (taken i) (taken_of rest) v h) [
    | inl j ↦ IsIn-append_left i.members (nodes_of rest) v (p.within v j)
    | inr j ↦ IsIn-append_right i.members (nodes_of rest) v (s.within v j)
  ];
  no_head = λ v h k. elim (IsIn-append_cases (taken i) (taken_of rest) v h) [
    | inl j ↦ elim k [ inl e ↦ p.no_head (rw e j) | inr m ↦ p.apart v (p.within v j) (s.headed v m) ]
    | inr j ↦ elim k [ inl e ↦ p.apart v (rw (← e) p.head_in) (s.within v j) | inr m ↦ s.no_head v j m ]
  ];
  either = λ v h. elim (IsIn-append_cases i.members (nodes_of rest) v h) [
    | inl j ↦ elim (p.either v j) [ inl e ↦ inl (inl e) | inr t ↦ inr (IsIn-append_left (taken i) (taken_of rest) v t) ]
    | inr j ↦ elim (s.either v j) [ inl m ↦ inl (inr m) | inr t ↦ inr (IsIn-append_right (taken i) (taken_of rest) v t) ]
  ];
  differ = Differ-append (taken i) (taken_of rest) p.differ s.differ (λ k a b. p.apart k (p.within k a) (s.within k b));
}

sorted : (N : ℕ → Type 0) (E : ℕ → ℕ → Type 0) (earlier : List ℕ) (level : List Interval) → AreIntervals N E earlier level → Differ (nodes_of level) → Sorted level
sorted N E earlier [] a d = record { headed = λ v h. h; within = λ v h. h; no_head = λ v h. absurd h; either = λ v h. absurd h; differ = tt }
sorted N E earlier (i ∷ rest) a d =
    let p = split i.head i.members a.2.0 (nodes_of rest) a.2.1 d in
    sorted_more i rest p (sorted N E (earlier ++ i.members) rest a.3 p.later)

-- a list with each node of a graph but the first exactly once
pub record TakesAll (N : ℕ → Type 0) (order : List ℕ) : Type 0 where
  pub differ : Differ order
  pub exact : (v : ℕ) → IsIn order v ↔ (N v × (v ≢ 0))

-- one level more: its heads are the nodes of the levels behind it, or it has but one
ordered_more : (n : ℕ) (N : ℕ → Type 0) (E : ℕ → ℕ → Type 0) (level : List Interval) (later : List ℕ) → Good n N E → IsLevel N E level
    → TakesAll (IsIn (heads_of level)) later → TakesAll N (taken_of level ++ later)
ordered_more n N E level later good is t = record {
  differ = Differ-append (taken_of level) later s.differ t.differ (λ k a b. s.no_head k a ((t.exact k).0 b).0);
  exact = λ v. (there v, back v);
}
  where
    s : Sorted level
    s = sorted N E [] level (intervals_of N E level good.first is) (shared n N E good level is).differ

    there : (v : ℕ) → IsIn (taken_of level ++ later) v → N v × (v ≢ 0)
    there v h = elim (IsIn-append_cases (taken_of level) later v h) [
      | inl j ↦ ((shared n N E good level is).nodes v (s.within v j), λ e. s.no_head v j (rw e (starts n N E good level is)))
      | inr j ↦ let q = (t.exact v).0 j in ((shared n N E good level is).nodes v (s.headed v q.0), q.1)
    ]

    back : (v : ℕ) → N v × (v ≢ 0) → IsIn (taken_of level ++ later) v
    back v q = elim (s.either v (covered n N E good level is v q.0)) [
      | inl h ↦ IsIn-append_right (taken_of level) later v ((t.exact v).1 (h, q.1))
      | inr j ↦ IsIn-append_left (taken_of level) later v j
    ]

-- what the levels take is each node but the first, once
pub ordered : (n : ℕ) (N : ℕ → Type 0) (E : ℕ → ℕ → Type 0) (level : List Interval) (rest : List (List Interval)) → Good n N E → AreLevels N E level rest
    → length (last_level level rest) ≡ 1 → TakesAll N (flat_map taken_of (level ∷ rest))
ordered n N E level [] good are one = ordered_more n N E level [] good are.0 (record {
  differ = tt;
  exact = λ v. ((λ h. absurd h), λ q. absurd (q.1 (only_one level v 0 one q.0 (starts n N E good level are.0))));
})
ordered n N E level (next ∷ rest) good are one =
    ordered_more n N E level (flat_map taken_of (next ∷ rest)) good are.0
    (ordered n (IsIn (heads_of level)) (NextArc E level) next rest (good_next n N E good level are.0) are.2 one)
