-- In a graph without a twice entered cycle, and with more than the first node, some other node has no two predecessors. What governs
-- nodes, and least of them, stands in place of a smallest loop.
use Rattle.std.proofs.Common.{◌≡◌, ◌≢◌, inl, inr, refl, sym, ◌∙◌, ℕ, ◌<◌, List, [], ◌∷◌, ◌++◌, subst}
use Rattle.il_core.specs.LineGraph.{IsIn}
use Rattle.flow_graph.specs.Search.{IsWalk, Reaches, AreBelow}
use Rattle.flow_graph.specs.Meeting.{Meets, IsOnEvery}
use Rattle.flow_graph.specs.Reached.{Differ}
use Rattle.control_flow.specs.Cycle.{IsReducible}
use Rattle.flow_graph.proofs.Members.{IsIn-push_cases}
use Rattle.flow_graph.proofs.Spreading.{walk_on}
use Rattle.interval_reduce.proofs.ReductionLists.{same_or_not, is_in_or_not, drained}
use Rattle.control_flow.proofs.Walks.{walk_end, met_inside, met_walk}
use Rattle.interval_reduce.proofs.ReductionWalks.{walk_to, first_met, met_last, met_before, StandsIn}

-- a graph of nodes below a limit, all reached from node 0, that no arc enters, and without arcs from a node to itself
pub record Good (n : ℕ) (N : ℕ → Type 0) (E : ℕ → ℕ → Type 0) : Type 0 where
  pub first : N 0
  pub reached : (v : ℕ) → N v → Reaches E 0 v
  pub joined : (u v : ℕ) → E u v → N u × N v
  pub none_in : (u : ℕ) → E u 0 → ⊥
  pub no_self : (u : ℕ) → E u u → ⊥
  pub below : (v : ℕ) → N v → v < n

-- node d is another node than v, and on every walk to it
pub record Governs (N : ℕ → Type 0) (E : ℕ → ℕ → Type 0) (d v : ℕ) : Type 0 where
  pub on_every : IsOnEvery E 0 d v
  pub other : d ≢ v
  pub node : N v

-- no node but the first has node d alone for a predecessor
abbrev pub AreJoined : (ℕ → Type 0) → (ℕ → ℕ → Type 0) → Type 0
AreJoined N E = (d v : ℕ) → N v → v ≢ 0 → d ≢ v → ((u : ℕ) → E u v → u ≡ d) → ⊥

-- nodes that differ, each an arc from the next, all governed by node s
abbrev pub IsTrail : (ℕ → Type 0) → (ℕ → ℕ → Type 0) → ℕ → List ℕ → Type 0
IsTrail N E s [] = ⊥
IsTrail N E s (v ∷ rest) = (z : ℕ) × IsWalk E v rest z × Differ (v ∷ rest) × ((k : ℕ) → IsIn (v ∷ rest) k → Governs N E s k)

-- nodes that differ, of which each governs those before it, and the first some other node
abbrev pub IsChain : (ℕ → Type 0) → (ℕ → ℕ → Type 0) → List ℕ → Type 0
IsChain N E [] = ⊥
IsChain N E (s ∷ seen) = (t : ℕ) × Governs N E s t × ((d : ℕ) → IsIn seen d → Governs N E d s) × Differ (s ∷ seen) × ((k : ℕ) → IsIn (s ∷ seen) k → N k)

-- what is governed is not the first node
governed_later : (N : ℕ → Type 0) (E : ℕ → ℕ → Type 0) (d v : ℕ) → Governs N E d v → v ≢ 0
governed_later N E d v g e = elim (g.on_every [] (sym e)) [ inl same ↦ g.other (sym (e ∙ same)) | inr h ↦ h ]

module _ (n : ℕ) (N : ℕ → Type 0) (E : ℕ → ℕ → Type 0) (good : Good n N E) where
  -- no two nodes govern each other
  not_both : (d s : ℕ) → Governs N E d s → Governs N E s d → ⊥
  not_both d s g h =
      let t = good.reached d h.node in
      let m = first_met E (λ k. d ≡ k) (same_or_not d) 0 t.0 d t.1 refl in
      by_walk m.1 m.0 m.2
    where
      by_walk : (lines : List ℕ) (x : ℕ) → Meets E (λ k. d ≡ k) 0 lines x → ⊥
      by_walk lines x m =
          let e : d ≡ x = met_inside E (λ k. d ≡ k) 0 lines x m in
          let to_d : IsWalk E 0 lines d = subst (λ (y : ℕ). IsWalk E 0 lines y) (sym e) (met_walk E (λ k. d ≡ k) 0 lines x m) in
          let b = met_before E (λ k. d ≡ k) 0 lines x s m (h.on_every lines to_d) g.other in
          b.2 d (g.on_every b.0 b.1) refl

  -- what governs what governs a node governs it
  governs_on : (d s v : ℕ) → Governs N E d s → Governs N E s v → Governs N E d v
  governs_on d s v g h = record {
    on_every = λ lines w. let t = walk_to E 0 lines v s w (h.on_every lines w) in t.2 d (g.on_every t.0 t.1);
    other = λ e. not_both d s g (subst (Governs N E s) (sym e) h);
    node = h.node;
  }

  -- a closed walk over what one node governs, where no node on it governs another
  closed_within : (s u v : ℕ) (front : List ℕ) → IsReducible E 0 → E u v → IsWalk E v front u → ((k : ℕ) → IsIn (v ∷ front) k → Governs N E s k)
      → ((x y : ℕ) → Governs N E s x → Governs N E x y → ⊥) → ⊥
  closed_within s u v front reducible e w inside leaves =
      let t = good.reached u (good.joined u v e).0 in
      let m = first_met E (IsIn cycle) (is_in_or_not cycle) 0 t.0 u t.1 (inl refl) in
      at_entry m.0 m.1 m.2
    where
      cycle : List ℕ
      cycle = u ∷ v ∷ front

      governed : (k : ℕ) → IsIn cycle k → Governs N E s k
      governed k (inl same) = rw (← same) (inside u (walk_end E v front u w))
      governed k (inr h) = inside k h

      another : (x : ℕ) → (y : ℕ) × IsIn cycle y × (x ≢ y)
      another x = elim (same_or_not x u) [
        | inl same ↦ (v, inr (inl refl), λ r. good.no_self u (subst (E u) (sym r ∙ same) e))
        | inr n ↦ (u, inl refl, n)
      ]

      at_entry : (x : ℕ) (lines : List ℕ) → Meets E (IsIn cycle) 0 lines x → ⊥
      at_entry x lines m =
          let o = another x in
          leaves x o.0 (governed x (met_inside E (IsIn cycle) 0 lines x m)) (record { on_every = through o.0 o.1; other = o.2; node = (governed o.0 o.1).node })
        where
          through : (y : ℕ) → IsIn cycle y → IsOnEvery E 0 x y
          through y i ls r = elim (is_in_or_not (0 ∷ ls) x) [ inl h ↦ h | inr n ↦ absurd (around (first_met E (IsIn cycle) (is_in_or_not cycle) 0 ls y r i) n) ]
            where
              around : (f : (z : ℕ) × (front : List ℕ) × Meets E (IsIn cycle) 0 front z × StandsIn (0 ∷ front) (0 ∷ ls)) → (IsIn (0 ∷ ls) x → ⊥) → ⊥
              around f n = reducible (u, v, front, (e, w), (x, f.0, (lines, m), (f.1, f.2), λ same. n (f.3 x (rw same (met_last E (IsIn cycle) 0 f.1 f.0 f.2)))))

  -- a predecessor of what a node governs is that node, or governed by it
  governs_back : (s u v : ℕ) → Governs N E s v → E u v → u ≢ s → Governs N E s u
  governs_back s u v g e other = record { on_every = through; other = λ same. other (sym same); node = (good.joined u v e).0 }
    where
      through : IsOnEvery E 0 s u
      through lines w = elim (IsIn-push_cases (0 ∷ lines) v s (g.on_every (lines ++ v ∷ []) (walk_on E 0 lines u v w e))) [
        | inl h ↦ h
        | inr same ↦ absurd (g.other (sym same))
      ]

  -- no node governs nodes none of which governs another, where each of them has two predecessors
  no_leaves : (s t : ℕ) → IsReducible E 0 → AreJoined N E → Governs N E s t
      → ((x y : ℕ) → Governs N E s x → Governs N E x y → ⊥) → ⊥
  no_leaves s t reducible joined g leaves = drained n (IsTrail N E s) fine grows (t ∷ []) (t, refl, ((λ h. h), tt), λ k h. elim h [ inl e ↦ rw (← e) g | inr n ↦ absurd n ])
    where
      fine : (xs : List ℕ) → IsTrail N E s xs → Differ xs × AreBelow n xs
      fine [] q = absurd q
      fine (v ∷ rest) q = (q.2, λ k h. good.below k (q.3 k h).node)

      grows : (xs : List ℕ) → IsTrail N E s xs → ((x : ℕ) → IsTrail N E s (x ∷ xs) → ⊥) → ⊥
      grows [] q none = q
      grows (v ∷ rest) q none = joined s v gv.node (governed_later N E s v gv) gv.other only
        where
          gv : Governs N E s v
          gv = q.3 v (inl refl)

          back : (u : ℕ) → E u v → Governs N E s u → ⊥
          back u e gu = elim (is_in_or_not (v ∷ rest) u) [
            | inl h ↦ let c = walk_to E v rest q.0 u q.1 h in closed_within s u v c.0 reducible e c.1 (λ k i. q.3 k (c.2 k i)) leaves
            | inr new ↦ none u (q.0, (e, q.1), (new, q.2), λ k i. elim i [ inl same ↦ rw (← same) gu | inr j ↦ q.3 k j ])
          ]

          only : (u : ℕ) → E u v → u ≡ s
          only u e = elim (same_or_not u s) [ inl same ↦ same | inr other ↦ absurd (back u e (governs_back s u v gv e other)) ]

  -- where no cycle is twice entered, and there is a node but the first, some node has one predecessor alone
  pub one_predecessor : (t : ℕ) → IsReducible E 0 → N t → t ≢ 0 → AreJoined N E → ⊥
  one_predecessor t reducible node later joined =
      drained n (IsChain N E) fine grows (0 ∷ []) (t, governed, λ d h. absurd h, ((λ h. h), tt), λ k h. elim h [ inl e ↦ rw (← e) good.first | inr n ↦ absurd n ])
    where
      governed : Governs N E 0 t
      governed = record { on_every = λ lines w. inl refl; other = λ e. later (sym e); node = node }

      fine : (xs : List ℕ) → IsChain N E xs → Differ xs × AreBelow n xs
      fine [] q = absurd q
      fine (s ∷ seen) q = (q.3, λ k h. good.below k (q.4 k h))

      grows : (xs : List ℕ) → IsChain N E xs → ((x : ℕ) → IsChain N E (x ∷ xs) → ⊥) → ⊥
      grows [] q none = q
      grows (s ∷ seen) q none = no_leaves s q.0 reducible joined q.1 down
        where
          down : (x y : ℕ) → Governs N E s x → Governs N E x y → ⊥
          down x y g h = none x (y, h, above, ((λ i. (above x i).other refl), q.3), λ k i. elim i [ inl same ↦ rw (← same) g.node | inr j ↦ q.4 k j ])
            where
              above : (d : ℕ) → IsIn (s ∷ seen) d → Governs N E d x
              above d (inl same) = rw (← same) g
              above d (inr i) = governs_on d s x (q.2 d i) g
