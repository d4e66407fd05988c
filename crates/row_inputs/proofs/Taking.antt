-- An input takes a row exactly where it meets each literal of it. It then stops as the row does, with the values of its terms.
use Rattle.std.proofs.Common.{◌≡◌, refl, sym, ap, ◌∙◌, subst, ℕ, zero, suc, ◌+◌, ◌<◌, ◌≤◌, Bool, true, false, ◌&&◌, Some, None, List, [], ◌∷◌, ◌++◌, map, length, append-nil, arith, inl, inr}
use Rattle.std.specs.Prelude.{MatchBool}
use Rattle.std.proofs.lemmas.Bool.{and_parts}
use Rattle.il_core.specs.Evaluation.{State}
use Rattle.il_core.specs.Input.{IsInput}
use Rattle.il_core.specs.LineGraph.{IsIn}
use Rattle.il_core.specs.Machine.{Step, step}
use Rattle.il_core.specs.Procedure.{Procedure}
use Rattle.il_core.specs.Run.{IsInRange}
use Rattle.il_core.specs.Checked.{IsChecked}
use Rattle.il_core.specs.declared.line.Next.{Next}
use Rattle.il_core.specs.declared.line.Next.TheVariants as next
use Rattle.il_core.specs.declared.line.Place.{Place}
use Rattle.il_core.specs.declared.line.Stop.{Stop}
use Rattle.il_core.specs.declared.line.Stop.TheVariants as stop
use Rattle.il_core.proofs.StepKeeps.{step-kept}
use Rattle.control_flow.specs.declared.control.LoopInfo.{LoopInfo}
use Rattle.sym_terms.specs.Tree.{Tree}
use Rattle.sym_terms.specs.Identity.{own_values}
use Rattle.sym_terms.specs.Comparison.{Comparison, comparison_holds}
use Rattle.sym_terms.proofs.Composed.{own_state}
use Rattle.sym_simplify.specs.Form.{form_value}
use Rattle.sym_simplify.specs.Laws.{NormalTermsKeepValues}
use Rattle.sym_simplify.specs.Literal.{LiteralForm, form_holds}
use Rattle.sym_simplify.proofs.LiteralForms.{literal_keeps}
use Rattle.test_graph.specs.Decision.{decision_at}
use Rattle.test_graph.specs.Laws.{WaysAreSteps}
use Rattle.test_graph.specs.Way.{Way, line_paths, decisions, all_hold, changed, state_behind, led_by}
use Rattle.test_graph.proofs.OneWay.{taken}
use Rattle.region_paths.specs.Region.{is_head}
use Rattle.region_paths.specs.Chain.{IsChain, Onward, StopsAt}
use Rattle.region_paths.specs.PlainRow.{PlainRow, along}
use Rattle.region_paths.specs.Listing.{RegionPath, IsShortPath}
use Rattle.region_paths.specs.Stepping.{StepsTo, TakesOne}
use Rattle.region_paths.specs.Laws.{BeginsRegion, InputsTakeOnePath, DecisionsTellPaths}
use Rattle.region_paths.proofs.Fits.{fits, along-holds}
use Rattle.path_inputs.specs.Least.{Meets}
use Rattle.semantic_tables.specs.Row.{comparison_form, forms_of, normal_row}
use Rattle.semantic_tables.proofs.Holding.{values-same}
use Rattle.row_inputs.specs.Input.{stop_at, TakesDecisions, TakesRow}
use Rattle.row_inputs.proofs.Stepped.{cancel, no_stop, head_stop}

pub input_in_range : (places : List Place) (pc : ℕ) (s : State) → IsInput places pc s → IsInRange places s
input_in_range places zero s i = i.in_range
input_in_range places (suc pc) s i = i

-- the decisions of ways, one after the other
abbrev path_of : List Way → List Bool
path_of [] = []
path_of (w ∷ ws) = w.path ++ path_of ws

along-path : (ws : List Way) (terms : List Tree) → (along ws terms).path ≡ path_of ws
along-path [] terms = refl
along-path (w ∷ ws) terms = ap (λ x. w.path ++ x) (along-path ws (changed w.change terms))

-- the decisions of the way through a line whose literals hold are those that the state takes
way_decides : (p : Procedure) (q : ℕ) (s : State) (w : Way) → IsIn (line_paths p q) w → all_hold w.literals s ≡ true → decisions p q s ≡ w.path
unfolding decisions line_paths
way_decides p q s w i h = ap (λ (v : Way). v.path) (taken (decision_at p q) s w i h)

-- what a state takes from line pc on: some number of steps, with these decisions, to this stop
abbrev Takes : Procedure → List LoopInfo → ℕ → State → List Bool → Stop → Type 0
Takes p loops q s path end = (n : ℕ) × TakesDecisions p loops n q s path end

-- a step that stops, by a way whose literals hold
takes_stop : (p : Procedure) (loops : List LoopInfo) (q : ℕ) (s : State) (w : Way) (ws : List Way) (here end : Stop) → IsIn (line_paths p q) w → all_hold w.literals s ≡ true
    → step p q s ≡ led_by w s → stop_at loops w.next ≡ Some here → StopsAt here ws end → Takes p loops q s (path_of (w ∷ ws)) end
takes_stop p loops q s w ws here end i a e n m = (
  0,
  (
    ap (λ y. w.path ++ path_of y) m.0 ∙ append-nil w.path ∙ sym (way_decides p q s w i a),
    ap (λ (t : Step). stop_at loops t.next) e ∙ n ∙ ap Some (sym m.1),
  ),
)

-- a step to the next line, which is no head
takes_more : (p : Procedure) (loops : List LoopInfo) (q r : ℕ) (s : State) (w : Way) (ws : List Way) (end : Stop) → IsIn (line_paths p q) w → all_hold w.literals s ≡ true
    → step p q s ≡ led_by w s → w.next ≡ next.At r → is_head loops r ≡ false → Takes p loops r (state_behind w.change s) (path_of ws) end
    → Takes p loops q s (path_of (w ∷ ws)) end
takes_more p loops q r s w ws end i a e n plain t =
    let same : state_behind w.change s ≡ (step p q s).state = sym (ap (λ (x : Step). x.state) e) in
    let rest = subst (λ x. TakesDecisions p loops t.0 r x (path_of ws) end) same t.1 in
    (suc t.0, (r, path_of ws, ap (λ (x : Step). x.next) e ∙ n, plain, ap (λ y. y ++ path_of ws) (sym (way_decides p q s w i a)), rest))

-- a chain that fits a state
chain_takes : (p : Procedure) (loops : List LoopInfo) (pc : ℕ) (ws : List Way) (s : State) (end : Stop) → WaysAreSteps → IsChecked p → IsInRange p.places s
    → IsChain p loops pc ws end → fits ws s ≡ true → Takes p loops pc s (path_of ws) end
chain_takes p loops pc [] s end law c r k f = absurd k
chain_takes p loops pc (w ∷ ws) s end law c r k f =
    by_next w.next refl k.1 (λ q m. chain_takes p loops q ws (state_behind w.change s) end law c later m parts.1)
  where
    parts : (all_hold w.literals s ≡ true) × (fits ws (state_behind w.change s) ≡ true)
    parts = and_parts (all_hold w.literals s) (fits ws (state_behind w.change s)) f

    stepped : step p pc s ≡ led_by w s
    stepped = law p pc s w c r k.0 parts.0

    later : IsInRange p.places (state_behind w.change s)
    later = subst (λ (x : Step). IsInRange p.places x.state) stepped (step-kept p pc s c r).in_range

    by_head : (b : Bool) (q : ℕ) → w.next ≡ next.At q → is_head loops q ≡ b → MatchBool b (StopsAt (stop.Head q) ws end) (IsChain p loops q ws end)
        → (IsChain p loops q ws end → Takes p loops q (state_behind w.change s) (path_of ws) end) → Takes p loops pc s (path_of (w ∷ ws)) end
    by_head true q e h m on = takes_stop p loops pc s w ws (stop.Head q) end k.0 parts.0 stepped (ap (stop_at loops) e ∙ head_stop loops q h) m
    by_head false q e h m on = takes_more p loops pc q s w ws end k.0 parts.0 stepped e h (on m)

    by_next : (n : Next) → w.next ≡ n → Onward loops n ws end (λ q. StopsAt (stop.Head q) ws end) (λ q. IsChain p loops q ws end)
        → ((q : ℕ) → IsChain p loops q ws end → Takes p loops q (state_behind w.change s) (path_of ws) end) → Takes p loops pc s (path_of (w ∷ ws)) end
    by_next (next.Halted x) e m on = takes_stop p loops pc s w ws (stop.Halted x) end k.0 parts.0 stepped (ap (stop_at loops) e) m
    by_next (next.At q) e m on = by_head (is_head loops q) q e refl m (on q)

-- a path whose literals hold is taken
path_taken : (p : Procedure) (loops : List LoopInfo) (pc : ℕ) (s : State) (r : RegionPath) → WaysAreSteps → IsChecked p → IsInRange p.places s → IsShortPath p loops pc r
    → all_hold r.row.literals s ≡ true → TakesRow p loops pc s (normal_row r)
path_taken p loops pc s r law c range k holds =
    let t = chain_takes p loops pc k.ways s r.stop law c range k.chain fit in
    (t.0, subst (λ x. TakesDecisions p loops t.0 pc s x r.stop) (sym (ap (λ (x : PlainRow). x.path) k.row ∙ along-path k.ways (own_values (length p.places)))) t.1)
  where
    fit : fits k.ways s ≡ true
    fit =
        ap (fits k.ways) (sym (own_state s (length p.places) range.size)) ∙ sym (along-holds k.ways (own_values (length p.places)) s)
        ∙ ap (λ (x : PlainRow). all_hold x.literals s) (sym k.row) ∙ holds

-- a state takes no two lists of decisions
one_taken : (p : Procedure) (loops : List LoopInfo) (n m pc : ℕ) (s : State) (a b : List Bool) (end other : Stop) → TakesDecisions p loops n pc s a end
    → TakesDecisions p loops m pc s b other → a ≡ b
one_taken p loops zero zero pc s a b end other t u = t.0 ∙ sym u.0
one_taken p loops zero (suc m) pc s a b end other t u =
    let x : None ≡ Some end = sym (no_stop loops u.0 u.3) ∙ ap (stop_at loops) (sym u.2) ∙ t.1 in absurd cc
one_taken p loops (suc n) zero pc s a b end other t u =
    let x : None ≡ Some other = sym (no_stop loops t.0 t.3) ∙ ap (stop_at loops) (sym t.2) ∙ u.1 in absurd cc
one_taken p loops (suc n) (suc m) pc s a b end other t u =
    let x : next.At u.0 ≡ next.At t.0 = sym u.2 ∙ t.2 in
    let line : u.0 ≡ t.0 = cc in
    let rest = one_taken p loops n m t.0 (step p pc s).state t.1 u.1 end other t.5 (subst (λ q. TakesDecisions p loops m q (step p pc s).state u.1 other) line u.5) in
    t.4 ∙ ap (λ y. decisions p pc s ++ y) rest ∙ sym u.4

-- the path that a state takes is the one whose literals hold
pub path_is : (p : Procedure) (loops : List LoopInfo) (pc : ℕ) (s : State) (r : RegionPath) → WaysAreSteps → DecisionsTellPaths → BeginsRegion p loops pc → IsInRange p.places s
    → IsShortPath p loops pc r → TakesRow p loops pc s (normal_row r) → (t : TakesOne (IsShortPath p loops pc) (StepsTo p loops pc s) s) → r ≡ t.path
path_is p loops pc s r law tell b range k t one =
    let u = path_taken p loops pc s one.path law b.checked range one.there one.holds in
    (tell p loops pc b).short r one.path k one.there (one_taken p loops t.0 u.0 pc s r.row.path one.path.row.path r.stop one.path.stop t.1 u.1)

-- forms of comparisons that hold
forms_hold : (cs : List Comparison) (s : State) → all_hold cs s ≡ true → (f : LiteralForm) → IsIn (map comparison_form cs) f → form_holds f s ≡ true
forms_hold [] s h f i = absurd i
forms_hold (c ∷ cs) s h f (inl e) =
    ap (λ x. form_holds x s) (sym e) ∙ literal_keeps c.relation c.left c.right s ∙ (and_parts (comparison_holds c s) (all_hold cs s) h).0
forms_hold (c ∷ cs) s h f (inr i) = forms_hold cs s (and_parts (comparison_holds c s) (all_hold cs s) h).1 f i

forms_met : (cs : List Comparison) (s : State) → ((f : LiteralForm) → IsIn (map comparison_form cs) f → form_holds f s ≡ true) → all_hold cs s ≡ true
forms_met [] s h = refl
forms_met (c ∷ cs) s h =
    let e : comparison_holds c s ≡ true = sym (literal_keeps c.relation c.left c.right s) ∙ h (comparison_form c) (inl refl) in
    ap (λ b. b && all_hold cs s) e ∙ forms_met cs s (λ f i. h f (inr i))

-- an input that meets each literal of a row takes it
pub row_taken : (p : Procedure) (loops : List LoopInfo) (pc : ℕ) (r : RegionPath) (s : State) → WaysAreSteps → BeginsRegion p loops pc → IsShortPath p loops pc r
    → Meets p.places pc (forms_of r) s → TakesRow p loops pc s (normal_row r)
row_taken p loops pc r s law b k m = path_taken p loops pc s r law b.checked (input_in_range p.places pc s m.input) k (forms_met r.row.literals s m.each)

-- and one that takes it meets each literal
pub row_met : (p : Procedure) (loops : List LoopInfo) (pc : ℕ) (r : RegionPath) (s : State) → WaysAreSteps → InputsTakeOnePath → DecisionsTellPaths → BeginsRegion p loops pc
    → IsShortPath p loops pc r → IsInput p.places pc s → TakesRow p loops pc s (normal_row r) → Meets p.places pc (forms_of r) s
row_met p loops pc r s law takes tell b k i t =
    let range = input_in_range p.places pc s i in
    let one = (takes p loops pc s b range).short in
    let same = path_is p loops pc s r law tell b range k t one in
    record { input = i; each = forms_hold r.row.literals s (ap (λ (x : RegionPath). all_hold x.row.literals s) same ∙ one.holds) }

-- and stepping from it gives the row's stop and values
pub row_steps : (p : Procedure) (loops : List LoopInfo) (pc : ℕ) (r : RegionPath) (s : State) → WaysAreSteps → InputsTakeOnePath → DecisionsTellPaths → NormalTermsKeepValues
    → BeginsRegion p loops pc → IsShortPath p loops pc r → IsInput p.places pc s → TakesRow p loops pc s (normal_row r)
    → StepsTo p loops pc s r.stop (map (λ f. form_value f s) (normal_row r).values)
row_steps p loops pc r s law takes tell keep b k i t =
    let range = input_in_range p.places pc s i in
    let one = (takes p loops pc s b range).short in
    let same = path_is p loops pc s r law tell b range k t one in
    subst (λ (x : RegionPath). StepsTo p loops pc s x.stop (map (λ f. form_value f s) (normal_row x).values)) (sym same)
    (subst (StepsTo p loops pc s one.path.stop) (sym (values-same one.path.row.values s keep)) one.leads)
