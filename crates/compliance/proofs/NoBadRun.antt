-- Where no input meets a threat, no run halts badly: from an input of a region that has passed the region's opening, a piece of the run
-- comes to such an input of another region, or halts well.
use Rattle.std.proofs.Common.{◌≡◌, ◌≢◌, inl, inr, refl, sym, ap, ◌∙◌, subst, ℕ, zero, suc, ◌+◌, ◌<◌, Bool, true, false, ◌||◌, eqb, eqb-true, List, [], ◌∷◌, map, length}
use Rattle.std.specs.Prelude.{filter, slice_get}
use Rattle.std.proofs.lemmas.Bool.{and_parts}
use Rattle.std.proofs.lemmas.Option.{slice_get_within, same_Some}
use Rattle.il_core.specs.Evaluation.{State}
use Rattle.il_core.specs.Input.{IsInput}
use Rattle.il_core.specs.LineGraph.{IsIn, HasArc, heads_at}
use Rattle.il_core.specs.Machine.{Step, step}
use Rattle.il_core.specs.Procedure.{Procedure}
use Rattle.il_core.specs.Run.{IsInRange, HasNoBadRun, is_bad}
use Rattle.il_core.specs.Checked.{IsChecked}
use Rattle.il_core.specs.declared.line.Halt.{Halt}
use Rattle.il_core.specs.declared.line.Next.{Next}
use Rattle.il_core.specs.declared.line.Next.TheVariants as next
use Rattle.il_core.specs.declared.line.Place.{Place}
use Rattle.il_core.specs.declared.line.Stop.{Stop}
use Rattle.il_core.specs.declared.line.Stop.TheVariants as stop
use Rattle.il_core.proofs.StepKeeps.{IsKept, step-kept}
use Rattle.flow_graph.specs.Graph.{arc_to}
use Rattle.flow_graph.proofs.Formed.{graph_formed}
use Rattle.flow_graph.proofs.LineArcs.{Joins-from_HasArc}
use Rattle.flow_graph.proofs.Members.{IsIn-append_cases}
use Rattle.control_flow.specs.Control.{heads_of}
use Rattle.control_flow.specs.declared.control.LoopInfo.{LoopInfo}
use Rattle.line_machine.specs.Cut.{IsMarked, EndsAt, Reaches}
use Rattle.sym_terms.specs.Identity.{own_values}
use Rattle.sym_terms.specs.Substitution.{state_of}
use Rattle.sym_terms.specs.Comparison.{Comparison, comparison_holds}
use Rattle.sym_simplify.specs.Literal.{LiteralForm, form_holds}
use Rattle.sym_simplify.proofs.LiteralForms.{literal_keeps}
use Rattle.test_graph.specs.Way.{Way, all_hold, state_behind}
use Rattle.sym_terms.proofs.Composed.{own_state}
use Rattle.test_graph.specs.Laws.{WaysAreSteps}
use Rattle.region_paths.specs.Region.{AreRegions, is_head, first_lines, leading_of, head_marks}
use Rattle.region_paths.specs.Chain.{IsLongChain, Onward, Leads, Passes}
use Rattle.region_paths.specs.PlainRow.{PlainRow}
use Rattle.region_paths.specs.Listing.{RegionPath, IsLongPath}
use Rattle.region_paths.specs.Stepping.{StepsTo, StepsOn, LongStepsTo, TakesOne}
use Rattle.region_paths.specs.Laws.{InputsTakeOnePath}
use Rattle.region_paths.proofs.Fits.{fits, along-holds}
use Rattle.region_paths.proofs.Marks.{length-head_marks, mark_of}
use Rattle.path_inputs.specs.Core.{is_plain, is_disequality, core, core_disequalities}
use Rattle.path_inputs.specs.Least.{Meets, HasNoInput, IsPlainlyRefuted}
use Rattle.compliance.specs.Opening.{opening, StayWithin}
use Rattle.semantic_tables.specs.Row.{comparison_form, forms_of}
use Rattle.semantic_tables.specs.Hazards.{stops_badly}
use Rattle.compliance.specs.Threat.{IsThreat}
use Rattle.compliance.specs.Laws.{ThreatsHaveNoInput}
use Rattle.compliance.proofs.CutRuns.{EndsWell, GoodPiece, cut_runs}
use Rattle.compliance.proofs.Members.{from_filter, from_take}
use Rattle.compliance.proofs.QuietLines.{IsQuiet, quiet_way}
use Rattle.compliance.proofs.Openings.{ArePassed, through_quiet, leading_quiet, opening_quiet, opening_passed, start_not_opened}

-- a chain that halts has a way that halts
leads_halt : (p : Procedure) (head : ℕ) (lines : List ℕ) (ws : List Way) (h : Halt) → Leads p head lines ws (stop.Halted h) → (w : Way) × IsIn ws w × (w.next ≡ next.Halted h)
leads_halt p head [] ws h c = absurd (let e = c.1 in cc)
leads_halt p head (a ∷ lines) [] h c = absurd c
leads_halt p head (a ∷ lines) (w ∷ ws) h c = by_next w.next refl c.1 (leads_halt p head lines ws h)
  where
    by_next : (n : Next) → w.next ≡ n → Passes n ws (stop.Halted h) (Leads p head lines ws (stop.Halted h))
        → (Leads p head lines ws (stop.Halted h) → (v : Way) × IsIn ws v × (v.next ≡ next.Halted h)) → (v : Way) × IsIn (w ∷ ws) v × (v.next ≡ next.Halted h)
    by_next (next.Halted x) e k later = let same : h ≡ x = let f = k.1 in cc in (w, inl refl, subst (λ y. w.next ≡ next.Halted y) (sym same) e)
    by_next (next.At q) e k later = let t = later k in (t.0, inr t.1, t.2)

chain_halts : (p : Procedure) (loops : List LoopInfo) (pc : ℕ) (ws : List Way) (h : Halt) → IsLongChain p loops pc ws (stop.Halted h)
    → (w : Way) × IsIn ws w × (w.next ≡ next.Halted h)
chain_halts p loops pc [] h c = absurd c
chain_halts p loops pc (w ∷ ws) h c = by_next w.next refl c.1 (λ q. chain_halts p loops q ws h)
  where
    by_head : (t : Bool) (q : ℕ) → Onward loops (next.At q) ws (stop.Halted h) (λ x. Leads p x (leading_of loops x) ws (stop.Halted h)) (λ x. IsLongChain p loops x ws (stop.Halted h))
        → is_head loops q ≡ t → ((x : ℕ) → IsLongChain p loops x ws (stop.Halted h) → (v : Way) × IsIn ws v × (v.next ≡ next.Halted h)) → (v : Way) × IsIn ws v × (v.next ≡ next.Halted h)
    by_head true q k e later = leads_halt p q (leading_of loops q) ws h (rw e at k)
    by_head false q k e later = later q (rw e at k)

    by_next : (n : Next) → w.next ≡ n → Onward loops n ws (stop.Halted h) (λ q. Leads p q (leading_of loops q) ws (stop.Halted h)) (λ q. IsLongChain p loops q ws (stop.Halted h))
        → ((x : ℕ) → IsLongChain p loops x ws (stop.Halted h) → (v : Way) × IsIn ws v × (v.next ≡ next.Halted h)) → (v : Way) × IsIn (w ∷ ws) v × (v.next ≡ next.Halted h)
    by_next (next.Halted x) e k later = let same : h ≡ x = let f = k.1 in cc in (w, inl refl, subst (λ y. w.next ≡ next.Halted y) (sym same) e)
    by_next (next.At q) e k later = let t = by_head (is_head loops q) q k refl later in (t.0, inr t.1, t.2)

-- ways through quiet lines that are passed in a state do not halt there
none_halts : (p : Procedure) (lines : List ℕ) (ws : List Way) (s : State) → WaysAreSteps → IsChecked p → IsInRange p.places s → ((q : ℕ) → IsIn lines q → IsQuiet p q)
    → ArePassed p lines s → StayWithin p lines ws → fits ws s ≡ true → (w : Way) (h : Halt) → IsIn ws w → w.next ≡ next.Halted h → ⊥
none_halts p lines [] s law c r k passed n f w h i e = absurd i
none_halts p [] (v ∷ ws) s law c r k passed n f w h i e = absurd n
none_halts p (q ∷ lines) (v ∷ ws) s law c r k passed n f w h i e = by_place i (none_halts p lines ws s law c r (λ x j. k x (inr j)) (λ x j. passed x (inr j)) n.1 later w h)
  where
    parts : (all_hold v.literals s ≡ true) × (fits ws (state_behind v.change s) ≡ true)
    parts = and_parts (all_hold v.literals s) (fits ws (state_behind v.change s)) f

    later : fits ws s ≡ true
    later = ap (λ x. fits ws (state_behind x s)) (sym (quiet_way p q v (k q (inl refl)) n.0)) ∙ parts.1

    goes_on : v.next ≡ next.At (q + 1)
    goes_on = ap (λ (t : Step). t.next) (sym (law p q s v c r n.0 parts.0) ∙ passed q (inl refl))

    by_place : IsIn (v ∷ ws) w → (IsIn ws w → w.next ≡ next.Halted h → ⊥) → ⊥
    by_place (inl same) more = let g : next.At (q + 1) ≡ next.Halted h = sym goes_on ∙ ap (λ (x : Way). x.next) same ∙ e in absurd cc
    by_place (inr j) more = more j e

-- a long path that an input takes, and that halts, leaves the opening that the input has passed
leaves_opening : (p : Procedure) (loops : List LoopInfo) (pc : ℕ) (s : State) (r : RegionPath) (h : Halt) → WaysAreSteps → IsChecked p → AreRegions p loops → IsInRange p.places s
    → ArePassed p (opening loops pc) s → (k : IsLongPath p loops pc r) → all_hold r.row.literals s ≡ true → r.stop ≡ stop.Halted h → StayWithin p (opening loops pc) k.ways → ⊥
leaves_opening p loops pc s r h law c regions in_range passed k holds e within =
    let chain : IsLongChain p loops pc k.ways (stop.Halted h) = subst (λ x. IsLongChain p loops pc k.ways x) e k.chain in
    let t = chain_halts p loops pc k.ways h chain in
    none_halts p (opening loops pc) k.ways s law c in_range (λ q i. opening_quiet p loops pc q regions i) passed within fit t.0 h t.1 t.2
  where
    fit : fits k.ways s ≡ true
    fit =
        ap (fits k.ways) (sym (own_state s (length p.places) in_range.size)) ∙ sym (along-holds k.ways (own_values (length p.places)) s)
        ∙ ap (λ (x : PlainRow). all_hold x.literals s) (sym k.row) ∙ holds

-- the form of each literal that holds in a state holds there
pub forms_hold : (cs : List Comparison) (s : State) → all_hold cs s ≡ true → (f : LiteralForm) → IsIn (map comparison_form cs) f → form_holds f s ≡ true
forms_hold [] s h f i = absurd i
forms_hold (c ∷ cs) s h f (inl e) =
    ap (λ x. form_holds x s) (sym e) ∙ literal_keeps c.relation c.left c.right s ∙ (and_parts (comparison_holds c s) (all_hold cs s) h).0
forms_hold (c ∷ cs) s h f (inr i) = forms_hold cs s (and_parts (comparison_holds c s) (all_hold cs s) h).1 f i

-- what is in the core of a list is in the list
from_core : (fs : List LiteralForm) (f : LiteralForm) → IsIn (core fs) f → IsIn fs f
from_core fs f i = elim (IsIn-append_cases (filter is_plain fs) (core_disequalities fs) f i) [
  | inl j ↦ (from_filter is_plain fs f j).0
  | inr j ↦ (from_filter is_disequality fs f (from_take 8 (filter is_disequality fs) f j)).0
]

-- no input meets what is plainly refuted
pub refuted_unmet : (places : List Place) (pc : ℕ) (fs : List LiteralForm) → IsPlainlyRefuted places pc fs → HasNoInput places pc fs
refuted_unmet places pc fs r s m = by_case r
  where
    core_met : Meets places pc (core fs) s
    core_met = record { input = m.input; each = λ f i. m.each f (from_core fs f i) }

    by_case : IsPlainlyRefuted places pc fs → ⊥
    by_case (inl none) = none s core_met
    by_case (inr t) = t.3 s core_met (m.each t.0 t.1)

-- an input of a region that has passed the region's opening
pub record HasEntered (p : Procedure) (loops : List LoopInfo) (pc : ℕ) (s : State) : Type 0 where
  pub first : IsIn (first_lines loops) pc
  pub input : IsInput p.places pc s
  pub passed : ArePassed p (opening loops pc) s

pub input_in_range : (places : List Place) (pc : ℕ) (s : State) → IsInput places pc s → IsInRange places s
input_in_range places zero s i = i.in_range
input_in_range places (suc pc) s i = i

in_range_input : (places : List Place) (pc : ℕ) (s : State) → pc ≢ 0 → IsInRange places s → IsInput places pc s
in_range_input places zero s n r = absurd (n refl)
in_range_input places (suc pc) s n r = r

-- a head that a run comes to
abbrev pub IsMet : Procedure → List Bool → Stop → Type 0
IsMet p cuts (stop.Halted h) = Unit {0}
IsMet p cuts (stop.Head q) = IsMarked cuts q × (q ≢ 0)

-- no arc goes to line 0
not_start : (p : Procedure) (a q : ℕ) → IsChecked p → HasArc p a q → q ≢ 0
not_start p a q c h = ((graph_formed p c).arcs (arc_to a q) (Joins-from_HasArc p a q h)).enters_no_start

-- steps lead to a state in range, and to a marked line other than line 0 where they do not halt
reached : (p : Procedure) (cuts : List Bool) (k pc : ℕ) (s : State) (end : Stop) (mid : State) → IsChecked p → IsInRange p.places s → Reaches p cuts k pc s end mid
    → IsInRange p.places mid × IsMet p cuts end
reached p cuts zero pc s end mid c r h = (subst (IsInRange p.places) (sym h.1) t.in_range, by_next (step p pc s).next refl h.0)
  where
    t : IsKept p.places (length p.lines) (heads_at pc (slice_get p.lines pc)) (step p pc s)
    t = step-kept p pc s c r

    by_next : (n : Next) → (step p pc s).next ≡ n → EndsAt cuts n end → IsMet p cuts end
    by_next (next.Halted x) e k = subst (IsMet p cuts) (sym k) tt
    by_next (next.At q) e k = subst (IsMet p cuts) (sym k.1) (k.0, not_start p pc q c (t.along q e))
reached p cuts (suc k) pc s end mid c r h = reached p cuts k h.0 (step p pc s).state end mid c (step-kept p pc s c r).in_range h.2

-- a marked line is a head
in_heads : (loops : List LoopInfo) (q : ℕ) → is_head loops q ≡ true → IsIn (heads_of loops) q
in_heads [] q h = absurd cc
in_heads (l ∷ loops) q h = by_test (eqb l.head q) refl h (in_heads loops q)
  where
    by_test : (t : Bool) → eqb l.head q ≡ t → (t || is_head loops q) ≡ true → (is_head loops q ≡ true → IsIn (heads_of loops) q) → IsIn (heads_of (l ∷ loops)) q
    by_test true e k later = inl (eqb-true l.head q e)
    by_test false e k later = inr (later k)

marked_first : (n : ℕ) (loops : List LoopInfo) (q : ℕ) → IsMarked (head_marks n loops) q → IsIn (first_lines loops) q
marked_first n loops q h =
    let l : q < length (head_marks n loops) = slice_get_within (head_marks n loops) q true h in
    let b : q < n = rw (length-head_marks n loops) at l in
    inr (in_heads loops q (same_Some (is_head loops q) true (sym (mark_of n loops q b) ∙ h)))

-- a long path that an input takes, which has passed the region's opening, does not stop badly where no input meets a threat
stops_well : (p : Procedure) (loops : List LoopInfo) (pc : ℕ) (s : State) (r : RegionPath) (h : Halt) → WaysAreSteps → IsChecked p → AreRegions p loops → ThreatsHaveNoInput p loops
    → HasEntered p loops pc s → IsLongPath p loops pc r → all_hold r.row.literals s ≡ true → r.stop ≡ stop.Halted h → is_bad h ≡ true → ⊥
stops_well p loops pc s r h law c regions unmet g k holds e bad =
    let range = input_in_range p.places pc s g.input in
    let threat : IsThreat p loops pc r = record { path = k; bad = ap stops_badly e ∙ bad; behind = leaves_opening p loops pc s r h law c regions range g.passed k holds e } in
    let met : Meets p.places pc (forms_of r) s = record { input = g.input; each = forms_hold r.row.literals s holds } in
    unmet pc r g.first threat s met

-- from such an input a piece of the run ends well
region_piece : (p : Procedure) (loops : List LoopInfo) → InputsTakeOnePath → WaysAreSteps → IsChecked p → AreRegions p loops → ThreatsHaveNoInput p loops
    → (pc : ℕ) (s : State) → HasEntered p loops pc s → GoodPiece p (head_marks (length p.lines) loops) (HasEntered p loops) pc s
region_piece p loops takes law c regions unmet pc s g = record {
  count = steps.0;
  end = met;
  to_s = mid;
  reaches = steps.1;
  well = by_met met steps.1 on;
}
  where
    range : IsInRange p.places s
    range = input_in_range p.places pc s g.input

    t : TakesOne (IsLongPath p loops pc) (LongStepsTo p loops pc s) s
    t = (takes p loops pc s (record { checked = c; regions = regions; first = g.first }) range).long

    met : Stop
    met = t.leads.0

    mid : State
    mid = t.leads.1

    steps : StepsTo p loops pc s met mid
    steps = t.leads.2

    on : StepsOn p loops met mid t.path.stop (state_of t.path.row.values s)
    on = t.leads.3

    not_bad : (h : Halt) (b : Bool) → t.path.stop ≡ stop.Halted h → is_bad h ≡ b → is_bad h ≡ false
    not_bad h true e k = absurd (stops_well p loops pc s t.path h law c regions unmet g t.there t.holds e k)
    not_bad h false e k = k

    by_met : (end : Stop) → Reaches p (head_marks (length p.lines) loops) steps.0 pc s end mid → StepsOn p loops end mid t.path.stop (state_of t.path.row.values s)
        → EndsWell (HasEntered p loops) end mid
    by_met (stop.Halted h) r o = not_bad h (is_bad h) o.0 refl
    by_met (stop.Head q) r o =
        let k = reached p (head_marks (length p.lines) loops) steps.0 pc s (stop.Head q) mid c range r in
        elim (through_quiet p q (leading_of loops q) mid t.path.stop (state_of t.path.row.values s) (λ a i. leading_quiet p loops q a regions i) o) [
          | inl x ↦ record {
            first = marked_first (length p.lines) loops q k.1.0;
            input = in_range_input p.places q mid k.1.1 k.0;
            passed = opening_passed p loops q mid regions x.2;
          }
          | inr x ↦ absurd (stops_well p loops pc s t.path x.0 law c regions unmet g t.there t.holds x.1 x.2)
        ]

-- where no input meets a threat, no run from the precondition halts badly
pub no_bad_run : (p : Procedure) (loops : List LoopInfo) → InputsTakeOnePath → WaysAreSteps → IsChecked p → AreRegions p loops → ThreatsHaveNoInput p loops → HasNoBadRun p
no_bad_run p loops takes law c regions unmet n s to_s halt inside h =
    let start : HasEntered p loops 0 s = record { first = inl refl; input = inside.0; passed = λ q i. absurd (start_not_opened p loops q c regions i) } in
    cut_runs p (head_marks (length p.lines) loops) (HasEntered p loops) (region_piece p loops takes law c regions unmet) n 0 s halt to_s start h
