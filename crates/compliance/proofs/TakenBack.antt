-- An input that takes a long path meets each literal of it: at each line the decisions of one way alone begin what is left of the path's.
use Rattle.std.proofs.Common.{◌≡◌, ◌⊎◌, inl, inr, refl, sym, ap, ◌∙◌, subst, ℕ, zero, suc, ◌+◌, Bool, true, false, ◌&&◌, Some, List, [], ◌∷◌, ◌++◌, map, length, append-nil}
use Rattle.std.specs.Prelude.{filter}
use Rattle.il_core.specs.Evaluation.{State}
use Rattle.il_core.specs.Input.{IsInput}
use Rattle.il_core.specs.LineGraph.{IsIn}
use Rattle.il_core.specs.Machine.{Step, step}
use Rattle.il_core.specs.Procedure.{Procedure}
use Rattle.il_core.specs.Run.{IsInRange}
use Rattle.il_core.specs.Checked.{IsChecked}
use Rattle.il_core.specs.declared.line.Halt.{Halt}
use Rattle.il_core.specs.declared.line.Next.{Next}
use Rattle.il_core.specs.declared.line.Next.TheVariants as next
use Rattle.il_core.specs.declared.line.Stop.TheVariants as stop
use Rattle.flow_graph.specs.Graph.{graph_of}
use Rattle.flow_graph.proofs.Members.{IsIn-append_cases, IsIn-from_map}
use Rattle.control_flow.specs.Loop.{kind_at, BeginsAt}
use Rattle.flow_graph.specs.declared.graph.NodeKind.TheVariants.{Plain}
use Rattle.control_flow.specs.declared.control.LoopInfo.{LoopInfo}
use Rattle.sym_terms.proofs.Composed.{own_state}
use Rattle.sym_terms.specs.Identity.{own_values}
use Rattle.test_graph.specs.Decision.{Decision, ask, done, decision_at}
use Rattle.test_graph.specs.Way.{Way, ways_of, line_paths, decided_true, decided_false, decisions, way_taken, all_hold, state_behind, led_by}
use Rattle.test_graph.specs.Laws.{WaysAreSteps}
use Rattle.test_graph.proofs.OneWay.{one_way}
use Rattle.region_paths.specs.Region.{AreRegions, is_head, leading_of}
use Rattle.region_paths.specs.Chain.{IsLongChain, Onward, Leads, Passes}
use Rattle.region_paths.specs.PlainRow.{PlainRow}
use Rattle.region_paths.specs.Listing.{RegionPath, IsLongPath}
use Rattle.region_paths.specs.Laws.{BeginsRegion}
use Rattle.region_paths.proofs.Fits.{fits, along-holds}
use Rattle.path_inputs.specs.Least.{Meets}
use Rattle.semantic_tables.specs.Row.{forms_of}
use Rattle.compliance.specs.Threat.{IsThreat}
use Rattle.compliance.specs.Verdict.{TakesDecisions, TakesPath}
use Rattle.compliance.proofs.Members.{from_filter}
use Rattle.compliance.proofs.QuietLines.{IsQuiet, quiet_step, plain_step}
use Rattle.compliance.proofs.Openings.{leading_lists, leading_quiet}
use Rattle.compliance.proofs.NoBadRun.{forms_hold, input_in_range}
use Rattle.compliance.proofs.Following.{FollowOn, leads_from}
use Rattle.compliance.proofs.Taking.{path_of, along-path, plain_decisions, behind_in_range}

tail_same : (a : Bool) (xs ys : List Bool) → (a ∷ xs) ≡ (a ∷ ys) → xs ≡ ys
tail_same a xs ys e = cc

-- two ways through a line that both begin one list of decisions are the same
pub same_way : (d : Decision) (v w : Way) (a b : List Bool) → IsIn (ways_of d) v → IsIn (ways_of d) w → v.path ++ a ≡ w.path ++ b → v ≡ w
same_way (done change next) v w a b (inl e) (inl f) g = sym e ∙ f
same_way (done change next) v w a b (inl e) (inr j) g = absurd j
same_way (done change next) v w a b (inr i) j g = absurd i
same_way (ask c met unmet) v w a b i j g = by_sides (sides v i) (sides w j) (λ x y. same_way met x y a b) (λ x y. same_way unmet x y a b)
  where
    Side : Way → Type 0
    Side x = ((y : Way) × IsIn (ways_of met) y × (decided_true c y ≡ x)) ⊎ ((y : Way) × IsIn (ways_of unmet) y × (decided_false c y ≡ x))

    sides : (x : Way) → IsIn (ways_of (ask c met unmet)) x → Side x
    sides x k = elim (IsIn-append_cases (map (decided_true c) (ways_of met)) (map (decided_false c) (ways_of unmet)) x k) [
      | inl m ↦ inl (IsIn-from_map (decided_true c) (ways_of met) x m)
      | inr m ↦ inr (IsIn-from_map (decided_false c) (ways_of unmet) x m)
    ]

    by_sides : Side v → Side w → ((x y : Way) → IsIn (ways_of met) x → IsIn (ways_of met) y → x.path ++ a ≡ y.path ++ b → x ≡ y)
        → ((x y : Way) → IsIn (ways_of unmet) x → IsIn (ways_of unmet) y → x.path ++ a ≡ y.path ++ b → x ≡ y) → v ≡ w
    by_sides (inl s) (inl t) f h =
        let e : (true ∷ (s.0.path ++ a)) ≡ (true ∷ (t.0.path ++ b)) = ap (λ (x : Way). x.path ++ a) s.2 ∙ g ∙ ap (λ (x : Way). x.path ++ b) (sym t.2) in
        sym s.2 ∙ ap (decided_true c) (f s.0 t.0 s.1 t.1 (tail_same true (s.0.path ++ a) (t.0.path ++ b) e)) ∙ t.2
    by_sides (inl s) (inr t) f h =
        let e : (true ∷ (s.0.path ++ a)) ≡ (false ∷ (t.0.path ++ b)) = ap (λ (x : Way). x.path ++ a) s.2 ∙ g ∙ ap (λ (x : Way). x.path ++ b) (sym t.2) in absurd cc
    by_sides (inr s) (inl t) f h =
        let e : (false ∷ (s.0.path ++ a)) ≡ (true ∷ (t.0.path ++ b)) = ap (λ (x : Way). x.path ++ a) s.2 ∙ g ∙ ap (λ (x : Way). x.path ++ b) (sym t.2) in absurd cc
    by_sides (inr s) (inr t) f h =
        let e : (false ∷ (s.0.path ++ a)) ≡ (false ∷ (t.0.path ++ b)) = ap (λ (x : Way). x.path ++ a) s.2 ∙ g ∙ ap (λ (x : Way). x.path ++ b) (sym t.2) in
        sym s.2 ∙ ap (decided_false c) (h s.0 t.0 s.1 t.1 (tail_same false (s.0.path ++ a) (t.0.path ++ b) e)) ∙ t.2

-- the way that a state takes is a way through the line, and its literals hold
way_there : (d : Decision) (s : State) → IsIn (filter (λ (w : Way). all_hold w.literals s) (ways_of d)) (way_taken d s)
way_there d s = subst (λ l. IsIn l (way_taken d s)) (sym (one_way d s)) (inl refl)

pub cancel : (a x y : List Bool) → a ++ x ≡ a ++ y → x ≡ y
cancel [] x y e = e
cancel (b ∷ a) x y e = cancel a x y (tail_same b (a ++ x) (a ++ y) e)

-- where the decisions that a state takes at a line begin as those of a way, that way's literals hold
pub record IsHeld (p : Procedure) (q : ℕ) (s : State) (w : Way) (left rest : List Bool) : Type 0 where
  pub holds : all_hold w.literals s ≡ true
  pub same : left ≡ rest

way_held : (p : Procedure) (q : ℕ) (s : State) (w : Way) (left rest : List Bool) → IsIn (line_paths p q) w → w.path ++ left ≡ decisions p q s ++ rest → IsHeld p q s w left rest
unfolding line_paths decisions
way_held p q s w left rest i e =
    let t = way_there (decision_at p q) s in
    let k = from_filter (λ (x : Way). all_hold x.literals s) (ways_of (decision_at p q)) (way_taken (decision_at p q) s) t in
    let f = same_way (decision_at p q) w (way_taken (decision_at p q) s) left rest i k.0 e in
    record {
      holds = ap (λ (x : Way). all_hold x.literals s) f ∙ k.1;
      same = cancel w.path left rest (e ∙ ap (λ (x : Way). x.path ++ rest) (sym f));
    }

fits_both : (w : Way) (ws : List Way) (s : State) → all_hold w.literals s ≡ true → fits ws (state_behind w.change s) ≡ true → fits (w ∷ ws) s ≡ true
fits_both w ws s a b = ap (λ x. x && fits ws (state_behind w.change s)) a ∙ b

-- a way at which the taking of decisions ends, or goes on
ends_taken : (p : Procedure) (q : ℕ) (s : State) (w : Way) (ws : List Way) (h : Halt) (P : Next → Type 0) → WaysAreSteps → IsChecked p → IsInRange p.places s
    → IsIn (line_paths p q) w → P w.next → ((x : Halt) → P (next.Halted x) → ws ≡ []) → TakesDecisions p 0 q s (path_of (w ∷ ws)) h → fits (w ∷ ws) s ≡ true
ends_taken p q s w ws h P law c r i on none t =
    let k = way_held p q s w (path_of ws) [] i (t.0 ∙ sym (append-nil (decisions p q s))) in
    let e : w.next ≡ next.Halted h = ap (λ (x : Step). x.next) (sym (law p q s w c r i k.holds)) ∙ t.1 in
    let f = none h (subst P e on) in
    fits_both w ws s k.holds (ap (λ x. fits x (state_behind w.change s)) f)

-- what is left of the taking of decisions behind a way
pub record GoesOnTaking (p : Procedure) (n q : ℕ) (s : State) (w : Way) (ws : List Way) (h : Halt) : Type 0 where
  pub line : ℕ
  pub holds : all_hold w.literals s ≡ true
  pub stepped : step p q s ≡ led_by w s
  pub next : w.next ≡ next.At line
  pub takes : TakesDecisions p n line (state_behind w.change s) (path_of ws) h

pub goes_on_taking : (p : Procedure) (n q : ℕ) (s : State) (w : Way) (ws : List Way) (h : Halt) → WaysAreSteps → IsChecked p → IsInRange p.places s → IsIn (line_paths p q) w
    → TakesDecisions p (suc n) q s (path_of (w ∷ ws)) h → GoesOnTaking p n q s w ws h
goes_on_taking p n q s w ws h law c r i t =
    let k = way_held p q s w (path_of ws) t.1 i t.3 in
    let e = law p q s w c r i k.holds in
    record {
      line = t.0;
      holds = k.holds;
      stepped = e;
      next = ap (λ (x : Step). x.next) (sym e) ∙ t.2;
      takes = subst (λ x. TakesDecisions p n t.0 x (path_of ws) h) (ap (λ (x : Step). x.state) e) (subst (λ x. TakesDecisions p n t.0 (step p q s).state x h) (sym k.same) t.4);
    }

-- behind a quiet line it is taken on at the next line
pub line_behind : (p : Procedure) (n q : ℕ) (s : State) (w : Way) (ws : List Way) (h : Halt) (g : GoesOnTaking p n q s w ws h) → IsQuiet p q → g.line ≡ q + 1
line_behind p n q s w ws h g k = elim (quiet_step p q s k) [
  | inl x ↦ let f : next.At g.line ≡ next.At (q + 1) = e ∙ ap (λ (y : Step). y.next) x in cc
  | inr x ↦ let f : next.At g.line ≡ next.Halted x.0 = e ∙ ap (λ (y : Step). y.next) x.1 in absurd cc
]
  where
    e : next.At g.line ≡ (step p q s).next
    e = sym (ap (λ (x : Step). x.next) g.stepped ∙ g.next)

-- through leading assertions that follow one another
leads_back : (p : Procedure) (head a : ℕ) (lines : List ℕ) (ws : List Way) (n : ℕ) (s : State) (h : Halt) → WaysAreSteps → IsChecked p → IsInRange p.places s
    → ((q : ℕ) → IsIn lines q → IsQuiet p q) → FollowOn a lines → Leads p head lines ws (stop.Halted h) → TakesDecisions p n a s (path_of ws) h → fits ws s ≡ true
leads_back p head a [] ws n s h law c r k follow l t = absurd (let e = l.1 in cc)
leads_back p head a (b ∷ lines) [] n s h law c r k follow l t = absurd l
leads_back p head a (b ∷ lines) (w ∷ ws) zero s h law c r k follow l t =
    ends_taken p b s w ws h (λ x. Passes x ws (stop.Halted h) (Leads p head lines ws (stop.Halted h))) law c r l.0 l.1 (λ x m. m.0)
    (subst (λ x. TakesDecisions p 0 x s (path_of (w ∷ ws)) h) (sym follow.0) t)
leads_back p head a (b ∷ lines) (w ∷ ws) (suc n) s h law c r k follow l t =
    let g = goes_on_taking p n b s w ws h law c r l.0 (subst (λ x. TakesDecisions p (suc n) x s (path_of (w ∷ ws)) h) (sym follow.0) t) in
    let m : Leads p head lines ws (stop.Halted h) = subst (λ x. Passes x ws (stop.Halted h) (Leads p head lines ws (stop.Halted h))) g.next l.1 in
    let there : g.line ≡ a + 1 = line_behind p n b s w ws h g (k b (inl refl)) ∙ ap (λ y. y + 1) follow.0 in
    fits_both w ws s g.holds
    (leads_back p head (a + 1) lines ws n (state_behind w.change s) h law c (behind_in_range p b s w c r g.stepped) (λ q i. k q (inr i)) follow.1 m
    (subst (λ x. TakesDecisions p n x (state_behind w.change s) (path_of ws) h) there g.takes))

-- from a head that does nothing on to the next line
pub plain_back : (p : Procedure) (q n : ℕ) (s : State) (path : List Bool) (h : Halt) → kind_at (graph_of p).nodes q ≡ Some Plain → TakesDecisions p n q s path h
    → (m : ℕ) × TakesDecisions p m (q + 1) s path h × (n ≡ suc m)
plain_back p q zero s path h e t = let f : next.At (q + 1) ≡ next.Halted h = sym (ap (λ (x : Step). x.next) (plain_step p q s e)) ∙ t.1 in absurd cc
plain_back p q (suc n) s path h e t =
    let g = plain_step p q s e in
    let f : next.At (q + 1) ≡ next.At t.0 = sym (ap (λ (x : Step). x.next) g) ∙ t.2 in
    let line : t.0 ≡ q + 1 = cc in
    let same : t.1 ≡ path = sym (t.3 ∙ ap (λ x. x ++ t.1) (plain_decisions p q s e)) in (
      n,
      subst (λ x. TakesDecisions p n x s path h) line
          (subst (λ x. TakesDecisions p n t.0 s x h) same (subst (λ x. TakesDecisions p n t.0 x t.1 h) (ap (λ (x : Step). x.state) g) t.4)),
      refl,
    )

head_back : (p : Procedure) (loops : List LoopInfo) (q : ℕ) (ws : List Way) (n : ℕ) (s : State) (h : Halt) → WaysAreSteps → IsChecked p → AreRegions p loops → IsInRange p.places s
    → Leads p q (leading_of loops q) ws (stop.Halted h) → TakesDecisions p n q s (path_of ws) h → fits ws s ≡ true
head_back p loops q ws n s h law c regions r l t = by_lines (leading_of loops q) refl l
  where
    at_start : (start : ℕ) → BeginsAt (graph_of p).nodes q start → (m : ℕ) × TakesDecisions p m start s (path_of ws) h
    at_start start (inl b) = (n, subst (λ x. TakesDecisions p n x s (path_of ws) h) (sym b.1) t)
    at_start start (inr b) = let u = plain_back p q n s (path_of ws) h b.0 t in (u.0, subst (λ x. TakesDecisions p u.0 x s (path_of ws) h) (sym b.1) u.1)

    by_lines : (lines : List ℕ) → leading_of loops q ≡ lines → Leads p q lines ws (stop.Halted h) → fits ws s ≡ true
    by_lines [] e m = absurd (let x = m.1 in cc)
    by_lines (a ∷ lines) e m =
        let i : IsIn (leading_of loops q) a = subst (λ x. IsIn x a) (sym e) (inl refl) in
        let f = leads_from (graph_of p).nodes q a (leading_of loops q) (leading_lists p loops q a regions i) i in
        let u = at_start f.start f.begins in
        leads_back p q f.start (leading_of loops q) ws u.0 s h law c r (λ x j. leading_quiet p loops q x regions j) f.follow l u.1

chain_back : (p : Procedure) (loops : List LoopInfo) (pc : ℕ) (ws : List Way) (n : ℕ) (s : State) (h : Halt) → WaysAreSteps → IsChecked p → AreRegions p loops → IsInRange p.places s
    → IsLongChain p loops pc ws (stop.Halted h) → TakesDecisions p n pc s (path_of ws) h → fits ws s ≡ true
chain_back p loops pc [] n s h law c regions r k t = absurd k
chain_back p loops pc (w ∷ ws) zero s h law c regions r k t =
    ends_taken p pc s w ws h
    (λ x. Onward loops x ws (stop.Halted h) (λ q. Leads p q (leading_of loops q) ws (stop.Halted h)) (λ q. IsLongChain p loops q ws (stop.Halted h)))
    law c r k.0 k.1 (λ x m. m.0) t
chain_back p loops pc (w ∷ ws) (suc n) s h law c regions r k t =
    fits_both w ws s g.holds (by_head (is_head loops g.line) refl on (λ m. chain_back p loops g.line ws n (state_behind w.change s) h law c regions later m g.takes))
  where
    g : GoesOnTaking p n pc s w ws h
    g = goes_on_taking p n pc s w ws h law c r k.0 t

    later : IsInRange p.places (state_behind w.change s)
    later = behind_in_range p pc s w c r g.stepped

    on : Onward loops (next.At g.line) ws (stop.Halted h) (λ q. Leads p q (leading_of loops q) ws (stop.Halted h)) (λ q. IsLongChain p loops q ws (stop.Halted h))
    on = subst (λ x. Onward loops x ws (stop.Halted h) (λ q. Leads p q (leading_of loops q) ws (stop.Halted h)) (λ q. IsLongChain p loops q ws (stop.Halted h))) g.next k.1

    by_head : (b : Bool) → is_head loops g.line ≡ b
        → Onward loops (next.At g.line) ws (stop.Halted h) (λ q. Leads p q (leading_of loops q) ws (stop.Halted h)) (λ q. IsLongChain p loops q ws (stop.Halted h))
        → (IsLongChain p loops g.line ws (stop.Halted h) → fits ws (state_behind w.change s) ≡ true) → fits ws (state_behind w.change s) ≡ true
    by_head true e m go = head_back p loops g.line ws n (state_behind w.change s) h law c regions later (rw e at m) g.takes
    by_head false e m go = go (rw e at m)

-- an input that takes a long path meets each literal of it
pub taken_holds : (p : Procedure) (loops : List LoopInfo) (pc : ℕ) (s : State) (r : RegionPath) → WaysAreSteps → IsChecked p → AreRegions p loops → IsInRange p.places s
    → IsLongPath p loops pc r → TakesPath p pc s r → all_hold r.row.literals s ≡ true
taken_holds p loops pc s r law c regions range k t =
    let chain : IsLongChain p loops pc k.ways (stop.Halted t.1) = subst (λ x. IsLongChain p loops pc k.ways x) t.2 k.chain in
    let same : r.row.path ≡ path_of k.ways = ap (λ (x : PlainRow). x.path) k.row ∙ along-path k.ways (own_values (length p.places)) in
    let fit = chain_back p loops pc k.ways t.0 s t.1 law c regions range chain (subst (λ x. TakesDecisions p t.0 pc s x t.1) same t.3) in
    ap (λ (x : PlainRow). all_hold x.literals s) k.row ∙ along-holds k.ways (own_values (length p.places)) s ∙ ap (fits k.ways) (own_state s (length p.places) range.size) ∙ fit

-- an input that takes a threat meets each literal of it
pub threat_met : (p : Procedure) (loops : List LoopInfo) (pc : ℕ) (r : RegionPath) (s : State) → WaysAreSteps → BeginsRegion p loops pc → IsThreat p loops pc r
    → IsInput p.places pc s → TakesPath p pc s r → Meets p.places pc (forms_of r) s
threat_met p loops pc r s law b k i t = record {
  input = i;
  each = forms_hold r.row.literals s (taken_holds p loops pc s r law b.checked b.regions (input_in_range p.places pc s i) k.path t);
}
