-- Each region has one list of its threats: its long paths in order, without those that do not stop badly or stop within the opening.
use Rattle.std.proofs.Common.{◌≡◌, ◌⊎◌, inl, inr, refl, sym, ap, ◌∙◌, subst, ℕ, Bool, true, false, List, [], ◌∷◌, ◌++◌, length, arith}
use Rattle.std.specs.Prelude.{◌↔◌}
use Rattle.std.proofs.lemmas.Bool.{cases_lt}
use Rattle.il_core.specs.LineGraph.{IsIn}
use Rattle.il_core.specs.Procedure.{Procedure}
use Rattle.il_core.specs.declared.line.Halt.{Halt}
use Rattle.il_core.specs.declared.line.Next.{Next}
use Rattle.il_core.specs.declared.line.Next.TheVariants as next
use Rattle.il_core.specs.declared.line.Stop.{Stop}
use Rattle.il_core.specs.declared.line.Stop.TheVariants as stop
use Rattle.control_flow.specs.declared.control.LoopInfo.{LoopInfo}
use Rattle.sym_terms.specs.Identity.{own_values}
use Rattle.test_graph.specs.Decision.{decision_at}
use Rattle.test_graph.specs.Way.{Way, line_paths}
use Rattle.test_graph.specs.Laws.{WaysGoAlongArcs}
use Rattle.region_paths.specs.Region.{is_head, leading_of}
use Rattle.region_paths.specs.Chain.{IsLongChain, Onward, Leads, Passes}
use Rattle.region_paths.specs.PlainRow.{PlainRow}
use Rattle.region_paths.specs.Listing.{RegionPath, IsLongPath, Ascend, AreLongPaths}
use Rattle.region_paths.specs.Laws.{BeginsRegion}
use Rattle.compliance.specs.Opening.{opening, StayWithin}
use Rattle.semantic_tables.specs.Hazards.{stops_badly}
use Rattle.compliance.specs.Threat.{IsThreat, AreThreats}
use Rattle.compliance.proofs.ShortPaths.{within_few, short_within}
use Rattle.compliance.proofs.Taking.{path_of, along-path}
use Rattle.compliance.proofs.TakenBack.{same_way, cancel}

-- ways through one line that begin one list of decisions are the same, and so is what is left of the list
pub record IsSameStep (v w : Way) (a b : List Bool) : Type 0 where
  pub way : v ≡ w
  pub left : a ≡ b

same_step : (p : Procedure) (q : ℕ) (v w : Way) (a b : List Bool) → IsIn (line_paths p q) v → IsIn (line_paths p q) w → v.path ++ a ≡ w.path ++ b → IsSameStep v w a b
unfolding line_paths
same_step p q v w a b i j e =
    let f = same_way (decision_at p q) v w a b i j e in
    record { way = f; left = cancel w.path a b (ap (λ (x : Way). x.path ++ a) (sym f) ∙ e) }

both_end : (v w : Way) (vs ws : List Way) → v ≡ w → vs ≡ ws → (v ∷ vs) ≡ (w ∷ ws)
both_end v w vs ws e f = cc

-- chains of a region that halt and have the same decisions are the same
one_lead : (p : Procedure) (head : ℕ) (lines : List ℕ) (vs ws : List Way) (g h : Halt) → Leads p head lines vs (stop.Halted g) → Leads p head lines ws (stop.Halted h)
    → path_of vs ≡ path_of ws → vs ≡ ws
one_lead p head [] vs ws g h k l e = absurd (let x = k.1 in cc)
one_lead p head (a ∷ lines) [] ws g h k l e = absurd k
one_lead p head (a ∷ lines) (v ∷ vs) [] g h k l e = absurd l
one_lead p head (a ∷ lines) (v ∷ vs) (w ∷ ws) g h k l e =
    both_end v w vs ws s.way (by_next v.next k.1 (subst (λ (x : Way). Passes x.next ws (stop.Halted h) (Leads p head lines ws (stop.Halted h))) (sym s.way) l.1)
    (λ x y. one_lead p head lines vs ws g h x y s.left))
  where
    s : IsSameStep v w (path_of vs) (path_of ws)
    s = same_step p a v w (path_of vs) (path_of ws) k.0 l.0 e

    by_next : (n : Next) → Passes n vs (stop.Halted g) (Leads p head lines vs (stop.Halted g)) → Passes n ws (stop.Halted h) (Leads p head lines ws (stop.Halted h))
        → (Leads p head lines vs (stop.Halted g) → Leads p head lines ws (stop.Halted h) → vs ≡ ws) → vs ≡ ws
    by_next (next.Halted x) m n later = m.0 ∙ sym n.0
    by_next (next.At q) m n later = later m n

one_chain : (p : Procedure) (loops : List LoopInfo) (pc : ℕ) (vs ws : List Way) (g h : Halt) → IsLongChain p loops pc vs (stop.Halted g)
    → IsLongChain p loops pc ws (stop.Halted h) → path_of vs ≡ path_of ws → vs ≡ ws
one_chain p loops pc [] ws g h k l e = absurd k
one_chain p loops pc (v ∷ vs) [] g h k l e = absurd l
one_chain p loops pc (v ∷ vs) (w ∷ ws) g h k l e =
    both_end v w vs ws s.way (by_next v.next k.1 (subst (λ (x : Way). Second x.next) (sym s.way) l.1) (λ q x y. one_chain p loops q vs ws g h x y s.left))
  where
    s : IsSameStep v w (path_of vs) (path_of ws)
    s = same_step p pc v w (path_of vs) (path_of ws) k.0 l.0 e

    First : Next → Type 0
    First n = Onward loops n vs (stop.Halted g) (λ q. Leads p q (leading_of loops q) vs (stop.Halted g)) (λ q. IsLongChain p loops q vs (stop.Halted g))

    Second : Next → Type 0
    Second n = Onward loops n ws (stop.Halted h) (λ q. Leads p q (leading_of loops q) ws (stop.Halted h)) (λ q. IsLongChain p loops q ws (stop.Halted h))

    by_head : (t : Bool) (q : ℕ) → is_head loops q ≡ t → First (next.At q) → Second (next.At q)
        → (IsLongChain p loops q vs (stop.Halted g) → IsLongChain p loops q ws (stop.Halted h) → vs ≡ ws) → vs ≡ ws
    by_head true q t m n later = one_lead p q (leading_of loops q) vs ws g h (rw t at m) (rw t at n) s.left
    by_head false q t m n later = later (rw t at m) (rw t at n)

    by_next : (n : Next) → First n → Second n → ((q : ℕ) → IsLongChain p loops q vs (stop.Halted g) → IsLongChain p loops q ws (stop.Halted h) → vs ≡ ws) → vs ≡ ws
    by_next (next.Halted x) m n later = m.0 ∙ sym n.0
    by_next (next.At q) m n later = by_head (is_head loops q) q refl m n (later q)

-- a long path is a threat or not
threat_or_not : (p : Procedure) (loops : List LoopInfo) (pc : ℕ) (r : RegionPath) → WaysGoAlongArcs → BeginsRegion p loops pc → IsLongPath p loops pc r
    → IsThreat p loops pc r ⊎ (IsThreat p loops pc r → ⊥)
threat_or_not p loops pc r arcs b k = by_stop r.stop refl
  where
    path_is : (k : IsLongPath p loops pc r) → r.row.path ≡ path_of k.ways
    path_is k = ap (λ (x : PlainRow). x.path) k.row ∙ along-path k.ways (own_values (length p.places))

    chain : (h : Halt) → r.stop ≡ stop.Halted h → (k : IsLongPath p loops pc r) → IsLongChain p loops pc k.ways (stop.Halted h)
    chain h e k = subst (λ x. IsLongChain p loops pc k.ways x) e k.chain

    by_length : (h : Halt) → r.stop ≡ stop.Halted h → stops_badly r.stop ≡ true → IsThreat p loops pc r ⊎ (IsThreat p loops pc r → ⊥)
    by_length h e bad = elim (cases_lt (length (opening loops pc)) (length k.ways)) [
      | inl more ↦ inl (record { path = k; bad = bad; behind = λ w. let few = within_few p (opening loops pc) k.ways w in omega (arith, few, more) })
      | inr few ↦ inr (λ t.
          let same = one_chain p loops pc k.ways t.path.ways h h (chain h e k) (chain h e t.path) (sym (path_is k) ∙ path_is t.path) in
          t.behind (subst (StayWithin p (opening loops pc)) same (short_within p loops pc k.ways h arcs b.regions (chain h e k) few)))
    ]

    by_bad : (h : Halt) (t : Bool) → r.stop ≡ stop.Halted h → stops_badly r.stop ≡ t → IsThreat p loops pc r ⊎ (IsThreat p loops pc r → ⊥)
    by_bad h true e bad = by_length h e bad
    by_bad h false e good = inr (λ t. let x : true ≡ false = sym t.bad ∙ good in absurd cc)

    by_stop : (end : Stop) → r.stop ≡ end → IsThreat p loops pc r ⊎ (IsThreat p loops pc r → ⊥)
    by_stop (stop.Halted h) e = by_bad h (stops_badly r.stop) e refl
    by_stop (stop.Head q) e = inr (λ t. let x : true ≡ false = sym t.bad ∙ ap stops_badly e in absurd cc)

-- the threats among some paths in order
pub record AreAmong (p : Procedure) (loops : List LoopInfo) (pc : ℕ) (rows ts : List RegionPath) : Type 0 where
  pub ordered : Ascend ts
  pub each : (r : RegionPath) → IsIn ts r ↔ (IsIn rows r × IsThreat p loops pc r)

threats_among : (p : Procedure) (loops : List LoopInfo) (pc : ℕ) (rows : List RegionPath) → WaysGoAlongArcs → BeginsRegion p loops pc → Ascend rows
    → ((r : RegionPath) → IsIn rows r → IsLongPath p loops pc r) → (ts : List RegionPath) × AreAmong p loops pc rows ts
threats_among p loops pc [] arcs b a long = ([], record { ordered = tt; each = λ r. (λ i. absurd i, λ t. absurd t.0) })
threats_among p loops pc (x ∷ rows) arcs b a long = by_kind (threats_among p loops pc rows arcs b a.1 (λ r i. long r (inr i))) (threat_or_not p loops pc x arcs b (long x (inl refl)))
  where
    by_kind : (ts : List RegionPath) × AreAmong p loops pc rows ts → IsThreat p loops pc x ⊎ (IsThreat p loops pc x → ⊥)
        → (ts : List RegionPath) × AreAmong p loops pc (x ∷ rows) ts
    by_kind t (inl k) = (x ∷ t.0, record { ordered = ((λ q i. a.0 q ((t.1.each q).0 i).0), t.1.ordered); each = each })
      where
        there : (r : RegionPath) → IsIn (x ∷ t.0) r → IsIn (x ∷ rows) r × IsThreat p loops pc r
        there r (inl e) = (inl e, subst (IsThreat p loops pc) e k)
        there r (inr i) = let m = (t.1.each r).0 i in (inr m.0, m.1)

        back : (r : RegionPath) → IsIn (x ∷ rows) r × IsThreat p loops pc r → IsIn (x ∷ t.0) r
        back r m = elim m.0 [ inl e ↦ inl e | inr i ↦ inr ((t.1.each r).1 (i, m.1)) ]

        each : (r : RegionPath) → IsIn (x ∷ t.0) r ↔ (IsIn (x ∷ rows) r × IsThreat p loops pc r)
        each r = (there r, back r)
    by_kind t (inr n) = (t.0, record { ordered = t.1.ordered; each = λ r. (λ i. let m = (t.1.each r).0 i in (inr m.0, m.1), back r) })
      where
        back : (r : RegionPath) → IsIn (x ∷ rows) r × IsThreat p loops pc r → IsIn t.0 r
        back r m = elim m.0 [ inl e ↦ absurd (n (subst (IsThreat p loops pc) (sym e) m.1)) | inr i ↦ (t.1.each r).1 (i, m.1) ]

-- each region has a list of its threats
pub threats_listed : (p : Procedure) (loops : List LoopInfo) (pc : ℕ) (rows : List RegionPath) → WaysGoAlongArcs → BeginsRegion p loops pc → AreLongPaths p loops pc rows
    → (ts : List RegionPath) × AreThreats p loops pc ts
threats_listed p loops pc rows arcs b l =
    let t = threats_among p loops pc rows arcs b l.ordered (λ r i. (l.each r).0 i) in
    (t.0, record { ordered = t.1.ordered; each = λ r. (λ i. ((t.1.each r).0 i).1, λ k. (t.1.each r).1 ((l.each r).1 k.path, k)) })
