-- A graph whose nodes are parted into intervals: a twice entered cycle of the next level is carried back by walks inside the intervals.
use Rattle.std.proofs.Common.{◌≡◌, ◌⊎◌, inl, inr, refl, sym, ◌∙◌, ap, subst, ℕ, zero, suc, ◌<◌, List, [], ◌∷◌, ◌++◌, arith}
use Rattle.il_core.specs.LineGraph.{IsIn}
use Rattle.flow_graph.specs.Search.{IsWalk}
use Rattle.flow_graph.specs.Meeting.{Meets, IsMetAt}
use Rattle.flow_graph.proofs.Members.{IsIn-push_cases, IsIn-append_cases, IsIn-append_right}
use Rattle.flow_graph.proofs.Spreading.{walk_on}
use Rattle.control_flow.specs.Cycle.{HasTwiceEntered, IsTwiceEntered}
use Rattle.control_flow.proofs.Walks.{walk_join}
use Rattle.interval_reduce.proofs.Dominance.{Good}
use Rattle.interval_reduce.proofs.ReductionUp.{Parted, Leads, crossing}

-- the last arc of a walk
pub last_arc : (E : ℕ → ℕ → Type 0) (a : ℕ) (lines : List ℕ) (b : ℕ) → IsWalk E a lines b → (a ≡ b) ⊎ ((p : ℕ) × E p b)
last_arc E a [] b w = inl w
last_arc E a (c ∷ rest) b w = elim (last_arc E c rest b w.1) [ inl e ↦ inr (a, rw (← e) w.0) | inr t ↦ inr t ]

-- a walk that keeps outside a set, and goes on to meet it first at a line
meets_after : (E : ℕ → ℕ → Type 0) (P : ℕ → Type 0) (a : ℕ) (lines : List ℕ) (u c : ℕ) (rest : List ℕ) (x : ℕ) → IsWalk E a lines u
    → ((k : ℕ) → IsIn (a ∷ lines) k → P k → ⊥) → E u c → Meets E P c rest x → Meets E P a (lines ++ c ∷ rest) x
meets_after E P a [] u c rest x w out e m = (out a (inl refl), rw w e, m)
meets_after E P a (d ∷ lines) u c rest x w out e m = (out a (inl refl), w.0, meets_after E P d lines u c rest x w.1 (λ k i. out k (inr i)) e m)

module _ (n : ℕ) (N : ℕ → Type 0) (E : ℕ → ℕ → Type 0) (own place : ℕ → ℕ) (good : Good n N E) (parted : Parted N E own place) where
  -- a walk from a head to a node of its interval, inside the interval
  abbrev pub IsInside : ℕ → ℕ → Type 0
  IsInside h u = (lines : List ℕ) × IsWalk E h lines u × ((k : ℕ) → IsIn (h ∷ lines) k → own k ≡ h)

  inside_by : (fuel h u : ℕ) → own u ≡ h → N u → place u < fuel → IsInside h u
  inside_by zero h u o m l = absurd (omega arith)
  inside_by (suc fuel) h u o m l = by_entry (parted.entered u m) (inside_by fuel h)
    where
      at_head : u ≡ own u → IsInside h u
      at_head e = ([], sym o ∙ sym e, λ k i. elim i [ inl s ↦ rw (← s) (subst (λ (x : ℕ). own x ≡ h) (e ∙ o) o) | inr x ↦ absurd x ])

      by_entry : (u ≡ own u) ⊎ ((p : ℕ) → E p u → (own p ≡ own u) × (place p < place u)) → ((p : ℕ) → own p ≡ h → N p → place p < fuel → IsInside h p) → IsInside h u
      by_entry (inl e) before = at_head e
      by_entry (inr f) before = elim (last_arc E 0 (good.reached u m).0 u (good.reached u m).1) [
        | inl e ↦ at_head (subst (λ (x : ℕ). x ≡ own x) e (sym parted.first))
        | inr t ↦
            let g = f t.0 t.1 in
            let p = before t.0 (g.0 ∙ o) (good.joined t.0 u t.1).0 (omega arith) in
            (p.0 ++ u ∷ [], walk_on E h p.0 t.0 u p.1 t.1, λ k i. elim (IsIn-push_cases (h ∷ p.0) u k i) [ inl j ↦ p.2 k j | inr s ↦ rw (← s) o ])
      ]

  inside : (u : ℕ) → N u → IsInside (own u) u
  inside u m = inside_by (suc (place u)) (own u) u refl m (omega arith)

  -- an arc of the next level: a walk inside the interval of its tail, then an arc to its head
  record Crossed (a c : ℕ) : Type 0 where
    tail : ℕ
    way : IsInside a tail
    arc : E tail c
    stays : own c ≡ c

  crossed : (a c : ℕ) → Leads E own a c → Crossed a c
  crossed a c l =
      let j = good.joined l.1 l.2 l.3 in
      let head : l.2 ≡ own l.2 = crossing n N E own place good parted l.1 l.2 l.3 (λ same. l.0 (sym l.4 ∙ same ∙ l.5)) in
      record {
        tail = l.1;
        way = subst (λ (h : ℕ). IsInside h l.1) l.4 (inside l.1 j.0);
        arc = subst (λ (v : ℕ). E l.1 v) (head ∙ l.5) l.3;
        stays = subst (λ (v : ℕ). own v ≡ v) (head ∙ l.5) (sym head);
      }

  -- a walk of the next level is carried back to one over nodes that belong to those on it
  carried : (a : ℕ) (nodes : List ℕ) (b : ℕ) → IsWalk (Leads E own) a nodes b → own a ≡ a
      → (lines : List ℕ) × IsWalk E a lines b × ((k : ℕ) → IsIn (a ∷ lines) k → IsIn (a ∷ nodes) (own k)) × ((m : ℕ) → IsIn (a ∷ nodes) m → IsIn (a ∷ lines) m)
  carried a [] b w o = ([], w, (λ k i. elim i [ inl s ↦ inl (sym o ∙ ap own s) | inr x ↦ absurd x ]), λ m i. i)
  carried a (c ∷ rest) b w o =
      let x = crossed a c w.0 in
      let t = carried c rest b w.1 x.stays in
      let ls = x.way.0 in (
        ls ++ c ∷ t.0,
        walk_join E a ls x.tail (c ∷ t.0) b x.way.1 (x.arc, t.1),
        (λ k i. elim (IsIn-append_cases (a ∷ ls) (c ∷ t.0) k i) [ inl j ↦ inl (sym (x.way.2 k j)) | inr j ↦ inr (t.2 k j) ]),
        λ m i. elim i [ inl s ↦ inl s | inr j ↦ IsIn-append_right (a ∷ ls) (c ∷ t.0) m (t.3 m j) ],
      )

  module _ (cycle nodes : List ℕ) (owned : (k : ℕ) → IsIn cycle k → IsIn nodes (own k)) (there : (m : ℕ) → IsIn nodes m → IsIn cycle m) where
    -- so is one that meets a cycle first at a line
    entry_down : (a : ℕ) (way : List ℕ) (x : ℕ) → Meets (Leads E own) (IsIn nodes) a way x → own a ≡ a → IsMetAt E a (IsIn cycle) x
    entry_down a [] x m o = ([], (m.0, there a m.1))
    entry_down a (c ∷ rest) x m o =
        let s = crossed a c m.1 in
        let t = entry_down c rest x m.2 s.stays in
        (s.way.0 ++ c ∷ t.0, meets_after E (IsIn cycle) a s.way.0 s.tail c t.0 x s.way.1 (λ k i j. m.0 (rw (s.way.2 k i) at (owned k j))) s.arc t.1)

  -- a twice entered cycle of the next level is one of this level
  pub carried_down : HasTwiceEntered (Leads E own) 0 → HasTwiceEntered E 0
  carried_down h = by_cycle h.0 h.1 h.2 h.3 h.4
    where
      by_cycle : (a b : ℕ) (nodes : List ℕ) → IsWalk (Leads E own) a (b ∷ nodes) a → IsTwiceEntered (Leads E own) 0 (a ∷ b ∷ nodes) → HasTwiceEntered E 0
      by_cycle a b nodes w t = by_lines c.0 c.1 c.2 c.3
        where
          stays : (x y : ℕ) → Leads E own x y → own x ≡ x
          stays x y l = rw (← l.4) (parted.kept l.1 (good.joined l.1 l.2 l.3).0)

          c : (lines : List ℕ) × IsWalk E a lines a × ((k : ℕ) → IsIn (a ∷ lines) k → IsIn (a ∷ b ∷ nodes) (own k)) × ((m : ℕ) → IsIn (a ∷ b ∷ nodes) m → IsIn (a ∷ lines) m)
          c = carried a (b ∷ nodes) a w (stays a b w.0)

          by_lines : (lines : List ℕ) → IsWalk E a lines a → ((k : ℕ) → IsIn (a ∷ lines) k → IsIn (a ∷ b ∷ nodes) (own k))
              → ((m : ℕ) → IsIn (a ∷ b ∷ nodes) m → IsIn (a ∷ lines) m) → HasTwiceEntered E 0
          by_lines [] v owned there = absurd (elim (there b (inr (inl refl))) [ inl same ↦ w.0.0 same | inr x ↦ x ])
          by_lines (d ∷ rest) v owned there = (a, d, rest, v, (t.0, t.1, down t.0 t.2, down t.1 t.3, t.4))
            where
              down : (x : ℕ) → IsMetAt (Leads E own) 0 (IsIn (a ∷ b ∷ nodes)) x → IsMetAt E 0 (IsIn (a ∷ d ∷ rest)) x
              down x m = entry_down (a ∷ d ∷ rest) (a ∷ b ∷ nodes) owned there 0 m.0 x m.1 parted.first
