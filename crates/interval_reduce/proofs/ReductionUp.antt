-- A graph whose nodes are parted into intervals: a cycle that is twice entered leads to one of the next level.
use Rattle.std.proofs.Common.{◌≡◌, ◌≢◌, ◌⊎◌, inl, inr, refl, sym, ◌∙◌, ap, subst, ℕ, ◌<◌, ◌≤◌, List, [], ◌∷◌, arith}
use Rattle.il_core.specs.LineGraph.{IsIn}
use Rattle.flow_graph.specs.Search.{IsWalk}
use Rattle.flow_graph.specs.Meeting.{Meets, IsMetAt}
use Rattle.control_flow.specs.Cycle.{HasTwiceEntered, IsTwiceEntered}
use Rattle.interval_reduce.proofs.ReductionLists.{same_or_not, is_in_or_not}
use Rattle.control_flow.proofs.Walks.{walk_end, met_inside}
use Rattle.interval_reduce.proofs.ReductionWalks.{StandsIn}
use Rattle.interval_reduce.proofs.Dominance.{Good}

-- each node belongs to one that belongs to itself; any other is entered from inside alone, from places before its own
pub record Parted (N : ℕ → Type 0) (E : ℕ → ℕ → Type 0) (own place : ℕ → ℕ) : Type 0 where
  pub entered : (v : ℕ) → N v → (v ≡ own v) ⊎ ((u : ℕ) → E u v → (own u ≡ own v) × (place u < place v))
  pub owned : (v : ℕ) → N v → N (own v)
  pub kept : (v : ℕ) → N v → own (own v) ≡ own v
  pub first : own 0 ≡ 0

-- an arc between what belongs to two different nodes
abbrev pub Leads : (ℕ → ℕ → Type 0) → (ℕ → ℕ) → ℕ → ℕ → Type 0
Leads E own a b = (a ≢ b) × (u : ℕ) × (v : ℕ) × E u v × (own u ≡ a) × (own v ≡ b)

module _ (n : ℕ) (N : ℕ → Type 0) (E : ℕ → ℕ → Type 0) (own place : ℕ → ℕ) (good : Good n N E) (parted : Parted N E own place) where
  -- an interval is entered at its head
  pub crossing : (u v : ℕ) → E u v → own u ≢ own v → v ≡ own v
  crossing u v e other = elim (parted.entered v (good.joined u v e).1) [ inl h ↦ h | inr f ↦ absurd (other (f u e).0) ]

  -- a walk leads to one over what its nodes belong to
  pub image : (a : ℕ) (lines : List ℕ) (b : ℕ) → IsWalk E a lines b
      → (nodes : List ℕ) × IsWalk (Leads E own) (own a) nodes (own b) × ((k : ℕ) → IsIn (a ∷ lines) k → IsIn (own a ∷ nodes) (own k))
      × ((m : ℕ) → IsIn (own a ∷ nodes) m → (k : ℕ) × IsIn (a ∷ lines) k × (own k ≡ m))
  image a [] b w = ([], ap own w, (λ k h. elim h [ inl e ↦ inl (ap own e) | inr x ↦ absurd x ]), λ m h. elim h [ inl e ↦ (a, inl refl, e) | inr x ↦ absurd x ])
  image a (c ∷ rest) b w =
      let t = image c rest b w.1 in
      elim (same_or_not (own a) (own c)) [
        | inl same ↦ (
          t.0,
          subst (λ (x : ℕ). IsWalk (Leads E own) x t.0 (own b)) (sym same) t.1,
          (λ k h. elim h [ inl e ↦ inl (ap own e) | inr i ↦ subst (λ (x : ℕ). IsIn (x ∷ t.0) (own k)) (sym same) (t.2 k i) ]),
          λ m h. let f = t.3 m (subst (λ (x : ℕ). IsIn (x ∷ t.0) m) same h) in (f.0, inr f.1, f.2),
        )
        | inr other ↦ (
          own c ∷ t.0,
          ((other, a, c, w.0, refl, refl), t.1),
          (λ k h. elim h [ inl e ↦ inl (ap own e) | inr i ↦ inr (t.2 k i) ]),
          λ m h. elim h [ inl e ↦ (a, inl refl, e) | inr i ↦ let f = t.3 m i in (f.0, inr f.1, f.2) ],
        )
      ]

  -- on a closed walk stands what each of its nodes belongs to, if that of one does
  spread : (cycle : List ℕ) (a : ℕ) (lines : List ℕ) (b : ℕ) → IsWalk E a lines b → StandsIn (a ∷ lines) cycle → IsIn cycle (own a) → (k : ℕ) → IsIn (a ∷ lines) k → IsIn cycle (own k)
  spread cycle a lines b w inside h k (inl e) = rw (← e) h
  spread cycle a [] b w inside h k (inr i) = absurd i
  spread cycle a (c ∷ rest) b w inside h k (inr i) = spread cycle c rest b w.1 (λ m j. inside m (inr j)) next k i
    where
      next : IsIn cycle (own c)
      next = elim (same_or_not (own a) (own c)) [
        | inl same ↦ rw (← same) h
        | inr other ↦ rw (← crossing a c w.0 other) (inside c (inr (inl refl)))
      ]

  -- else the places rise along it
  step_up : (cycle : List ℕ) (a c : ℕ) (rest : List ℕ) (b : ℕ) → IsWalk E a (c ∷ rest) b → StandsIn (a ∷ c ∷ rest) cycle → (IsIn cycle (own b) → ⊥) → place a < place c
  step_up cycle a c rest b w inside none = elim (parted.entered c (good.joined a c w.0).1) [
    | inl head ↦ absurd (none (spread cycle c rest b w.1 later (rw (← head) (inside c (inr (inl refl)))) b (walk_end E c rest b w.1)))
    | inr f ↦ (f a w.0).1
  ]
    where
      later : StandsIn (c ∷ rest) cycle
      later m j = inside m (inr j)

  climb : (cycle : List ℕ) (a : ℕ) (lines : List ℕ) (b : ℕ) → IsWalk E a lines b → StandsIn (a ∷ lines) cycle → (IsIn cycle (own b) → ⊥) → place a ≤ place b
  climb cycle a [] b w inside none = rw w (omega arith)
  climb cycle a (c ∷ rest) b w inside none =
      let s = step_up cycle a c rest b w inside none in
      let t = climb cycle c rest b w.1 (λ m j. inside m (inr j)) none in
      omega arith

  -- so a closed walk has what each of its nodes belongs to
  closed_owns : (a b : ℕ) (lines : List ℕ) → IsWalk E a (b ∷ lines) a → (k : ℕ) → IsIn (a ∷ b ∷ lines) k → IsIn (a ∷ b ∷ lines) (own k)
  closed_owns a b lines w k i = elim (is_in_or_not (a ∷ b ∷ lines) (own a)) [
    | inl h ↦ spread (a ∷ b ∷ lines) a (b ∷ lines) a w (λ m j. j) h k i
    | inr n ↦
        let s = step_up (a ∷ b ∷ lines) a b lines a w (λ m j. j) n in
        let t = climb (a ∷ b ∷ lines) b lines a w.1 (λ m j. inr j) n in
        absurd (omega arith)
  ]

  module _ (cycle nodes : List ℕ) (owns : (k : ℕ) → IsIn cycle k → IsIn cycle (own k)) (there : (k : ℕ) → IsIn cycle k → IsIn nodes (own k))
      (back : (m : ℕ) → IsIn nodes m → (k : ℕ) × IsIn cycle k × (own k ≡ m)) where
    -- a walk that meets such a cycle first at a line leads to one that meets what belongs to it first at that line, a head
    entry_up : (a : ℕ) (lines : List ℕ) (x : ℕ) → Meets E (IsIn cycle) a lines x → (a ≡ own a) ⊎ (IsIn cycle (own a) → ⊥)
        → (x ≡ own x) × (way : List ℕ) × Meets (Leads E own) (IsIn nodes) (own a) way (own x)
    entry_up a [] x m h = (rw (← m.0) head, [], (ap own m.0, there a m.1))
      where
        head : a ≡ own a
        head = elim h [ inl e ↦ e | inr n ↦ absurd (n (owns a m.1)) ]
    entry_up a (c ∷ rest) x m h = by_owner (same_or_not (own a) (own c)) (entry_up c rest x m.2)
      where
        outside : IsIn cycle (own a) → ⊥
        outside i = elim h [ inl e ↦ m.0 (rw e i) | inr n ↦ n i ]

        not_there : IsIn nodes (own a) → ⊥
        not_there i = let t = back (own a) i in outside (rw (← t.2) (owns t.0 t.1))

        by_owner : (own a ≡ own c) ⊎ (own a ≢ own c)
            → ((c ≡ own c) ⊎ (IsIn cycle (own c) → ⊥) → (x ≡ own x) × (way : List ℕ) × Meets (Leads E own) (IsIn nodes) (own c) way (own x))
            → (x ≡ own x) × (way : List ℕ) × Meets (Leads E own) (IsIn nodes) (own a) way (own x)
        by_owner (inl same) later =
            let t = later (inr (rw (← same) outside)) in
            (t.0, t.1, subst (λ (y : ℕ). Meets (Leads E own) (IsIn nodes) y t.1 (own x)) (sym same) t.2)
        by_owner (inr other) later =
            let t = later (inl (crossing a c m.1 other)) in
            (t.0, own c ∷ t.1, (not_there, (other, a, c, m.1, refl, refl), t.2))

  -- a twice entered cycle leads to one of the next level
  pub carried_up : HasTwiceEntered E 0 → HasTwiceEntered (Leads E own) 0
  carried_up h =
      let w : IsWalk E h.0 (h.1 ∷ h.2) h.0 = h.3 in
      let i = image h.0 (h.1 ∷ h.2) h.0 w in
      by_entries h.0 h.1 h.2 i.0 w i.1 i.2 i.3 h.4
    where
      by_entries : (a b : ℕ) (lines nodes : List ℕ) → IsWalk E a (b ∷ lines) a → IsWalk (Leads E own) (own a) nodes (own a)
          → ((k : ℕ) → IsIn (a ∷ b ∷ lines) k → IsIn (own a ∷ nodes) (own k)) → ((m : ℕ) → IsIn (own a ∷ nodes) m → (k : ℕ) × IsIn (a ∷ b ∷ lines) k × (own k ≡ m))
          → IsTwiceEntered E 0 (a ∷ b ∷ lines) → HasTwiceEntered (Leads E own) 0
      by_entries a b lines nodes w v there back t = by_nodes nodes v there (up t.0 t.2) (up t.1 t.3)
        where
          Entry : List ℕ → ℕ → Type 0
          Entry ns x = (x ≡ own x) × IsIn (a ∷ b ∷ lines) x × IsMetAt (Leads E own) 0 (IsIn (own a ∷ ns)) (own x)

          up : (x : ℕ) → IsMetAt E 0 (IsIn (a ∷ b ∷ lines)) x → Entry nodes x
          up x m =
              let f = entry_up (a ∷ b ∷ lines) (own a ∷ nodes) (closed_owns a b lines w) there back 0 m.0 x m.1 (inl (sym parted.first)) in
              (f.0, met_inside E (IsIn (a ∷ b ∷ lines)) 0 m.0 x m.1, (f.1, subst (λ (y : ℕ). Meets (Leads E own) (IsIn (own a ∷ nodes)) y f.1 (own x)) parted.first f.2))

          by_nodes : (ns : List ℕ) → IsWalk (Leads E own) (own a) ns (own a) → ((k : ℕ) → IsIn (a ∷ b ∷ lines) k → IsIn (own a ∷ ns) (own k))
              → Entry ns t.0 → Entry ns t.1 → HasTwiceEntered (Leads E own) 0
          by_nodes [] v there x y = absurd (t.4 (x.0 ∙ same (there t.0 x.1) ∙ sym (y.0 ∙ same (there t.1 y.1))))
            where
              same : {k : ℕ} → IsIn (own a ∷ []) k → k ≡ own a
              same (inl e) = sym e
              same (inr n) = absurd n
          by_nodes (c ∷ rest) v there x y = (own a, c, rest, v, (own t.0, own t.1, x.2, y.2, λ e. t.4 (x.0 ∙ e ∙ sym y.0)))

  -- no cycle is twice entered where all nodes belong to one
  pub no_cycle : ((u v : ℕ) → N u → N v → own u ≡ own v) → HasTwiceEntered E 0 → ⊥
  no_cycle alike h = let t = carried_up h in apart t.0 t.1 t.3.0
    where
      apart : (a b : ℕ) → Leads E own a b → ⊥
      apart a b l = let j = good.joined l.1 l.2 l.3 in l.0 (sym l.4 ∙ alike l.1 l.2 j.0 j.1 ∙ l.5)
