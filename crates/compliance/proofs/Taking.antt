-- An input in which each literal of a long path holds takes the path: the lines stepped from it take the path's decisions and halt as it does.
use Rattle.std.proofs.Common.{◌≡◌, inl, inr, refl, sym, ap, ◌∙◌, subst, ℕ, suc, ◌+◌, Bool, true, false, ◌&&◌, Some, List, [], ◌∷◌, ◌++◌, map, length, append-nil}
use Rattle.std.proofs.lemmas.Bool.{and_parts}
use Rattle.il_core.specs.Evaluation.{State}
use Rattle.il_core.specs.LineGraph.{IsIn}
use Rattle.il_core.specs.Machine.{Step, step}
use Rattle.il_core.specs.Procedure.{Procedure, Instruction, end_if, loop, label, skip}
use Rattle.il_core.specs.Run.{IsInRange}
use Rattle.il_core.specs.Checked.{IsChecked}
use Rattle.il_core.specs.declared.line.Halt.{Halt}
use Rattle.il_core.specs.declared.line.Next.{Next}
use Rattle.il_core.specs.declared.line.Next.TheVariants as next
use Rattle.il_core.specs.declared.line.Place.{Place}
use Rattle.il_core.specs.declared.line.Stop.{Stop}
use Rattle.il_core.specs.declared.line.Stop.TheVariants as stop
use Rattle.il_core.proofs.StepKeeps.{step-kept}
use Rattle.flow_graph.specs.Graph.{graph_of, kind_of}
use Rattle.flow_graph.specs.declared.graph.NodeKind.TheVariants.{Plain}
use Rattle.control_flow.specs.Loop.{kind_at, BeginsAt}
use Rattle.control_flow.specs.declared.control.LoopInfo.{LoopInfo}
use Rattle.sym_terms.specs.Tree.{Tree}
use Rattle.sym_terms.specs.Identity.{own_values}
use Rattle.test_graph.specs.Decision.{decision_of, decision_there, decision_at}
use Rattle.test_graph.specs.Way.{Way, line_paths, decisions, way_taken, all_hold, changed, state_behind, led_by}
use Rattle.sym_terms.proofs.Composed.{own_state}
use Rattle.test_graph.specs.Laws.{WaysAreSteps}
use Rattle.test_graph.proofs.OneWay.{taken}
use Rattle.region_paths.specs.Region.{AreRegions, is_head, leading_of}
use Rattle.region_paths.specs.Chain.{IsLongChain, Onward, Leads, Passes}
use Rattle.region_paths.specs.PlainRow.{PlainRow, along}
use Rattle.region_paths.specs.Listing.{RegionPath, IsLongPath}
use Rattle.region_paths.proofs.Fits.{fits, along-holds}
use Rattle.region_paths.specs.Laws.{BeginsRegion}
use Rattle.sym_terms.specs.Comparison.{Comparison, comparison_holds}
use Rattle.sym_simplify.specs.Literal.{LiteralForm, form_holds}
use Rattle.sym_simplify.proofs.LiteralForms.{literal_keeps}
use Rattle.path_inputs.specs.Least.{Meets}
use Rattle.semantic_tables.specs.Row.{comparison_form, forms_of}
use Rattle.semantic_tables.specs.Hazards.{stops_badly}
use Rattle.compliance.specs.Threat.{IsThreat}
use Rattle.compliance.specs.Verdict.{TakesDecisions, TakesPath}
use Rattle.compliance.proofs.QuietLines.{IsQuiet, quiet_step, kind_there, plain_step}
use Rattle.compliance.proofs.Openings.{leading_lists, leading_quiet}
use Rattle.compliance.proofs.NoBadRun.{input_in_range}
use Rattle.compliance.proofs.Following.{FollowOn, leads_from}

-- the decisions of ways, one after the other
abbrev pub path_of : List Way → List Bool
path_of [] = []
path_of (w ∷ ws) = w.path ++ path_of ws

pub along-path : (ws : List Way) (terms : List Tree) → (along ws terms).path ≡ path_of ws
along-path [] terms = refl
along-path (w ∷ ws) terms = ap (λ x. w.path ++ x) (along-path ws (changed w.change terms))

plain_decided : (places : List Place) (q : ℕ) (s : State) (i : Instruction) → kind_of i ≡ Plain → (way_taken (decision_of places q i) s).path ≡ []
plain_decided places q s end_if h = refl
plain_decided places q s loop h = refl
plain_decided places q s label h = refl
plain_decided places q s skip h = refl
plain_decided places q s i h = absurd cc

-- a line that does nothing decides nothing
pub plain_decisions : (p : Procedure) (q : ℕ) (s : State) → kind_at (graph_of p).nodes q ≡ Some Plain → decisions p q s ≡ []
unfolding decisions decision_at
plain_decisions p q s h =
    let t = kind_there p q Plain h in
    ap (λ o. (way_taken (decision_there p.places q o) s).path) t.1 ∙ plain_decided p.places q s t.0 t.2

-- the decisions of the way through a line whose literals hold are those that the state takes
way_decides : (p : Procedure) (q : ℕ) (s : State) (w : Way) → IsIn (line_paths p q) w → all_hold w.literals s ≡ true → decisions p q s ≡ w.path
unfolding decisions line_paths
way_decides p q s w i h = ap (λ (v : Way). v.path) (taken (decision_at p q) s w i h)

-- what a state takes from line pc on: some number of steps, with these decisions, to this halt
abbrev pub Takes : Procedure → ℕ → State → List Bool → Halt → Type 0
Takes p pc s path h = (n : ℕ) × TakesDecisions p n pc s path h

-- a step that halts, by a way whose literals hold
takes_halt : (p : Procedure) (q : ℕ) (s : State) (w : Way) (ws : List Way) (x h : Halt) → IsIn (line_paths p q) w → all_hold w.literals s ≡ true → step p q s ≡ led_by w s
    → w.next ≡ next.Halted x → ws ≡ [] → stop.Halted h ≡ stop.Halted x → Takes p q s (path_of (w ∷ ws)) h
takes_halt p q s w ws x h i a e n none same =
    let to : (step p q s).next ≡ next.Halted x = ap (λ (t : Step). t.next) e ∙ n in
    let is : x ≡ h = cc in
    (0, (ap (λ y. w.path ++ path_of y) none ∙ append-nil w.path ∙ sym (way_decides p q s w i a), subst (λ y. (step p q s).next ≡ next.Halted y) is to))

-- a step to the next line, by a way whose literals hold
takes_more : (p : Procedure) (q r : ℕ) (s : State) (w : Way) (ws : List Way) (h : Halt) → IsIn (line_paths p q) w → all_hold w.literals s ≡ true → step p q s ≡ led_by w s
    → (step p q s).next ≡ next.At r → Takes p r (state_behind w.change s) (path_of ws) h → Takes p q s (path_of (w ∷ ws)) h
takes_more p q r s w ws h i a e n t =
    let same : state_behind w.change s ≡ (step p q s).state = sym (ap (λ (x : Step). x.state) e) in
    let rest = subst (λ x. TakesDecisions p t.0 r x (path_of ws) h) same t.1 in
    (suc t.0, (r, path_of ws, n, ap (λ y. y ++ path_of ws) (sym (way_decides p q s w i a)), rest))

pub behind_in_range : (p : Procedure) (q : ℕ) (s : State) (w : Way) → IsChecked p → IsInRange p.places s → step p q s ≡ led_by w s → IsInRange p.places (state_behind w.change s)
behind_in_range p q s w c r e = subst (λ (x : Step). IsInRange p.places x.state) e (step-kept p q s c r).in_range

-- the ways of leading assertions that follow one another
leads_take : (p : Procedure) (head a : ℕ) (lines : List ℕ) (ws : List Way) (s : State) (h : Halt) → WaysAreSteps → IsChecked p → IsInRange p.places s
    → ((q : ℕ) → IsIn lines q → IsQuiet p q) → FollowOn a lines → Leads p head lines ws (stop.Halted h) → fits ws s ≡ true → Takes p a s (path_of ws) h
leads_take p head a [] ws s h law c r k follow l f = absurd (let e = l.1 in cc)
leads_take p head a (b ∷ lines) [] s h law c r k follow l f = absurd l
leads_take p head a (b ∷ lines) (w ∷ ws) s h law c r k follow l f =
    subst (λ x. Takes p x s (path_of (w ∷ ws)) h) follow.0
    (by_next w.next refl l.1
    (λ m. leads_take p head (a + 1) lines ws (state_behind w.change s) h law c (behind_in_range p b s w c r stepped) (λ q i. k q (inr i)) follow.1 m parts.1))
  where
    parts : (all_hold w.literals s ≡ true) × (fits ws (state_behind w.change s) ≡ true)
    parts = and_parts (all_hold w.literals s) (fits ws (state_behind w.change s)) f

    stepped : step p b s ≡ led_by w s
    stepped = law p b s w c r l.0 parts.0

    on : (q : ℕ) → w.next ≡ next.At q → (step p b s).next ≡ next.At (a + 1)
    on q e = elim (quiet_step p b s (k b (inl refl))) [
      | inl g ↦ ap (λ (t : Step). t.next) g ∙ ap (λ x. next.At (x + 1)) follow.0
      | inr g ↦ let n : next.Halted g.0 ≡ next.At q = sym (ap (λ (t : Step). t.next) g.1) ∙ ap (λ (t : Step). t.next) stepped ∙ e in absurd cc
    ]

    by_next : (n : Next) → w.next ≡ n → Passes n ws (stop.Halted h) (Leads p head lines ws (stop.Halted h))
        → (Leads p head lines ws (stop.Halted h) → Takes p (a + 1) (state_behind w.change s) (path_of ws) h) → Takes p b s (path_of (w ∷ ws)) h
    by_next (next.Halted x) e m later = takes_halt p b s w ws x h l.0 parts.0 stepped e m.0 m.1
    by_next (next.At q) e m later = takes_more p b (a + 1) s w ws h l.0 parts.0 stepped (on q e) (later m)

-- from a head on through its leading assertions
head_takes : (p : Procedure) (loops : List LoopInfo) (q : ℕ) (ws : List Way) (s : State) (h : Halt) → WaysAreSteps → IsChecked p → AreRegions p loops → IsInRange p.places s
    → Leads p q (leading_of loops q) ws (stop.Halted h) → fits ws s ≡ true → Takes p q s (path_of ws) h
head_takes p loops q ws s h law c regions r l f = by_lines (leading_of loops q) refl l
  where
    begun : (a : ℕ) (start : ℕ) → BeginsAt (graph_of p).nodes q start → Takes p start s (path_of ws) h → Takes p q s (path_of ws) h
    begun a start (inl b) t = subst (λ x. Takes p x s (path_of ws) h) b.1 t
    begun a start (inr b) t =
        let e = plain_step p q s b.0 in
        let t' : Takes p (q + 1) s (path_of ws) h = subst (λ x. Takes p x s (path_of ws) h) b.1 t in
        let same : s ≡ (step p q s).state = sym (ap (λ (x : Step). x.state) e) in (
          suc t'.0,
          (
            q + 1,
            path_of ws,
            ap (λ (x : Step). x.next) e,
            ap (λ y. y ++ path_of ws) (sym (plain_decisions p q s b.0)),
            subst (λ x. TakesDecisions p t'.0 (q + 1) x (path_of ws) h) same t'.1,
          ),
        )

    by_lines : (lines : List ℕ) → leading_of loops q ≡ lines → Leads p q lines ws (stop.Halted h) → Takes p q s (path_of ws) h
    by_lines [] e m = absurd (let x = m.1 in cc)
    by_lines (a ∷ lines) e m =
        let i : IsIn (leading_of loops q) a = subst (λ x. IsIn x a) (sym e) (inl refl) in
        let t = leads_from (graph_of p).nodes q a (leading_of loops q) (leading_lists p loops q a regions i) i in
        begun a t.start t.begins
        (leads_take p q t.start (leading_of loops q) ws s h law c r (λ x j. leading_quiet p loops q x regions j) t.follow l f)

-- a long chain that fits a state and halts
chain_takes : (p : Procedure) (loops : List LoopInfo) (pc : ℕ) (ws : List Way) (s : State) (h : Halt) → WaysAreSteps → IsChecked p → AreRegions p loops → IsInRange p.places s
    → IsLongChain p loops pc ws (stop.Halted h) → fits ws s ≡ true → Takes p pc s (path_of ws) h
chain_takes p loops pc [] s h law c regions r k f = absurd k
chain_takes p loops pc (w ∷ ws) s h law c regions r k f =
    by_next w.next refl k.1 (λ q m. chain_takes p loops q ws (state_behind w.change s) h law c regions later m parts.1)
  where
    parts : (all_hold w.literals s ≡ true) × (fits ws (state_behind w.change s) ≡ true)
    parts = and_parts (all_hold w.literals s) (fits ws (state_behind w.change s)) f

    stepped : step p pc s ≡ led_by w s
    stepped = law p pc s w c r k.0 parts.0

    later : IsInRange p.places (state_behind w.change s)
    later = behind_in_range p pc s w c r stepped

    by_head : (t : Bool) (q : ℕ) → is_head loops q ≡ t
        → Onward loops (next.At q) ws (stop.Halted h) (λ x. Leads p x (leading_of loops x) ws (stop.Halted h)) (λ x. IsLongChain p loops x ws (stop.Halted h))
        → ((x : ℕ) → IsLongChain p loops x ws (stop.Halted h) → Takes p x (state_behind w.change s) (path_of ws) h) → Takes p q (state_behind w.change s) (path_of ws) h
    by_head true q e m on = head_takes p loops q ws (state_behind w.change s) h law c regions later (rw e at m) parts.1
    by_head false q e m on = on q (rw e at m)

    by_next : (n : Next) → w.next ≡ n
        → Onward loops n ws (stop.Halted h) (λ x. Leads p x (leading_of loops x) ws (stop.Halted h)) (λ x. IsLongChain p loops x ws (stop.Halted h))
        → ((x : ℕ) → IsLongChain p loops x ws (stop.Halted h) → Takes p x (state_behind w.change s) (path_of ws) h) → Takes p pc s (path_of (w ∷ ws)) h
    by_next (next.Halted x) e m on = takes_halt p pc s w ws x h k.0 parts.0 stepped e m.0 m.1
    by_next (next.At q) e m on = takes_more p pc q s w ws h k.0 parts.0 stepped (ap (λ (t : Step). t.next) stepped ∙ e) (by_head (is_head loops q) q refl m on)

pub path_taken : (p : Procedure) (loops : List LoopInfo) (pc : ℕ) (s : State) (r : RegionPath) (h : Halt) → WaysAreSteps → IsChecked p → AreRegions p loops → IsInRange p.places s
    → IsLongPath p loops pc r → r.stop ≡ stop.Halted h → all_hold r.row.literals s ≡ true → TakesPath p pc s r
path_taken p loops pc s r h law c regions range k e holds =
    let chain : IsLongChain p loops pc k.ways (stop.Halted h) = subst (λ x. IsLongChain p loops pc k.ways x) e k.chain in
    let t = chain_takes p loops pc k.ways s h law c regions range chain fit in
    (t.0, h, e, subst (λ x. TakesDecisions p t.0 pc s x h) (sym (ap (λ (x : PlainRow). x.path) k.row ∙ along-path k.ways (own_values (length p.places)))) t.1)
  where
    fit : fits k.ways s ≡ true
    fit =
        ap (fits k.ways) (sym (own_state s (length p.places) range.size)) ∙ sym (along-holds k.ways (own_values (length p.places)) s)
        ∙ ap (λ (x : PlainRow). all_hold x.literals s) (sym k.row) ∙ holds

-- literals whose forms all hold in a state hold there
forms_met : (cs : List Comparison) (s : State) → ((f : LiteralForm) → IsIn (map comparison_form cs) f → form_holds f s ≡ true) → all_hold cs s ≡ true
forms_met [] s h = refl
forms_met (c ∷ cs) s h =
    let e : comparison_holds c s ≡ true = sym (literal_keeps c.relation c.left c.right s) ∙ h (comparison_form c) (inl refl) in
    ap (λ b. b && all_hold cs s) e ∙ forms_met cs s (λ f i. h f (inr i))

-- an input that meets each literal of a threat takes it
pub threat_taken : (p : Procedure) (loops : List LoopInfo) (pc : ℕ) (r : RegionPath) (s : State) → WaysAreSteps → BeginsRegion p loops pc → IsThreat p loops pc r
    → Meets p.places pc (forms_of r) s → TakesPath p pc s r
threat_taken p loops pc r s law b k m = by_stop r.stop refl k.bad
  where
    by_stop : (end : Stop) → r.stop ≡ end → stops_badly end ≡ true → TakesPath p pc s r
    by_stop (stop.Halted h) e bad =
        path_taken p loops pc s r h law b.checked b.regions (input_in_range p.places pc s m.input) k.path e (forms_met r.row.literals s m.each)
    by_stop (stop.Head q) e bad = absurd cc
