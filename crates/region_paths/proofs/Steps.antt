-- Where the literals of a chain hold, stepping its lines leads to its stop and to the state behind its ways.
use Rattle.std.proofs.Common.{◌≡◌, refl, sym, ap, ◌∙◌, subst, ℕ, suc, Bool, true, false, Some, List, [], ◌∷◌, length, slice_get}
use Rattle.std.specs.Prelude.{MatchBool}
use Rattle.std.proofs.lemmas.Bool.{and_parts}
use Rattle.il_core.specs.Evaluation.{State}
use Rattle.il_core.specs.Machine.{Step, step}
use Rattle.il_core.specs.Procedure.{Procedure}
use Rattle.il_core.specs.Run.{IsInRange}
use Rattle.il_core.specs.Checked.{IsChecked}
use Rattle.il_core.specs.declared.line.Next.{Next}
use Rattle.il_core.specs.declared.line.Next.TheVariants as next
use Rattle.il_core.specs.declared.line.Stop.{Stop}
use Rattle.il_core.specs.declared.line.Stop.TheVariants as stop
use Rattle.il_core.proofs.StepKeeps.{step-kept}
use Rattle.line_machine.specs.Cut.{EndsAt, GoesOnAt, Reaches}
use Rattle.control_flow.specs.declared.control.LoopInfo.{LoopInfo}
use Rattle.test_graph.specs.Way.{Way, all_hold, led_by, state_behind}
use Rattle.test_graph.specs.Laws.{WaysAreSteps}
use Rattle.region_paths.specs.Region.{is_head, head_marks, leading_of}
use Rattle.region_paths.specs.Chain.{StopsAt, Onward, IsChainTo, Passes, Leads, IsChain, IsLongChain}
use Rattle.region_paths.specs.Stepping.{StepsTo, StepsPast, StepsThrough, StepsOn, LongStepsTo}
use Rattle.region_paths.proofs.Marks.{mark_of}
use Rattle.region_paths.proofs.Fits.{fits, ended}

-- what is left of a chain where stepping meets a halt or a head
abbrev Left : Procedure → (ℕ → List Way → Stop → Type 0) → Stop → State → Stop → State → Type 0
Left p B (stop.Halted h) mid end to_s = (end ≡ stop.Halted h) × (to_s ≡ mid)
Left p B (stop.Head q) mid end to_s = (ws : List Way) × B q ws end × (fits ws mid ≡ true) × (to_s ≡ ended ws mid) × IsInRange p.places mid

-- the front of a chain, stepped to a halt or to the first head
record Front (p : Procedure) (loops : List LoopInfo) (B : ℕ → List Way → Stop → Type 0) (pc : ℕ) (s : State) (end : Stop) (to_s : State) : Type 0 where
  met : Stop
  mid : State
  steps : StepsTo p loops pc s met mid
  left : Left p B met mid end to_s

-- the last step of a front
last_step : (p : Procedure) (loops : List LoopInfo) (pc : ℕ) (s : State) (t : Step) (end : Stop) → step p pc s ≡ t → EndsAt (head_marks (length p.lines) loops) t.next end
    → StepsTo p loops pc s end t.state
last_step p loops pc s t end e h = (0, (subst (λ (x : Step). EndsAt (head_marks (length p.lines) loops) x.next end) (sym e) h, ap (λ (x : Step). x.state) (sym e)))

-- one step before others
one_step : (p : Procedure) (loops : List LoopInfo) (pc : ℕ) (s : State) (t : Step) (mid : ℕ) (end : Stop) (to_s : State) → step p pc s ≡ t
    → GoesOnAt (head_marks (length p.lines) loops) t.next mid → StepsTo p loops mid t.state end to_s → StepsTo p loops pc s end to_s
one_step p loops pc s t mid end to_s e g r = (
  suc r.0,
  (
    mid,
    subst (λ (x : Step). GoesOnAt (head_marks (length p.lines) loops) x.next mid) (sym e) g,
    subst (λ (x : Step). Reaches p (head_marks (length p.lines) loops) r.0 mid x.state end to_s) (sym e) r.1,
  ),
)

-- a chain that fits a state, stepped to a halt or to the first head
chain_front : (p : Procedure) (loops : List LoopInfo) (B : ℕ → List Way → Stop → Type 0) → WaysAreSteps → IsChecked p → (ws : List Way) (pc : ℕ) (s : State) (end : Stop)
    → IsInRange p.places s → IsChainTo p loops B pc ws end → fits ws s ≡ true → Front p loops B pc s end (ended ws s)
chain_front p loops B law c [] pc s end r h f = absurd h
chain_front p loops B law c (w ∷ ws) pc s end r h f = by_next w.next refl h.1 (λ q k. chain_front p loops B law c ws q (state_behind w.change s) end in_range k parts.1)
  where
    parts : (all_hold w.literals s ≡ true) × (fits ws (state_behind w.change s) ≡ true)
    parts = and_parts (all_hold w.literals s) (fits ws (state_behind w.change s)) f

    stepped : step p pc s ≡ led_by w s
    stepped = law p pc s w c r h.0 parts.0

    in_range : IsInRange p.places (state_behind w.change s)
    in_range = subst (λ (x : Step). IsInRange p.places x.state) stepped (step-kept p pc s c r).in_range

    leads_to : (n : Next) → w.next ≡ n → step p pc s ≡ (let k : Step = record { next = n; state = state_behind w.change s } in k)
    leads_to n e = stepped ∙ ap (λ (x : Next). let k : Step = record { next = x; state = state_behind w.change s } in k) e

    mark : (q : ℕ) (b : Bool) → w.next ≡ next.At q → is_head loops q ≡ b → slice_get (head_marks (length p.lines) loops) q ≡ Some b
    mark q b e m = mark_of (length p.lines) loops q ((step-kept p pc s c r).inside q (ap (λ (x : Step). x.next) (leads_to (next.At q) e))) ∙ ap Some m

    at_line : (q : ℕ) (b : Bool) → w.next ≡ next.At q → is_head loops q ≡ b → MatchBool b (B q ws end) (IsChainTo p loops B q ws end)
        → (IsChainTo p loops B q ws end → Front p loops B q (state_behind w.change s) end (ended ws (state_behind w.change s)))
        → Front p loops B pc s end (ended ws (state_behind w.change s))
    at_line q true e m k later = record {
      met = stop.Head q;
      mid = state_behind w.change s;
      steps = last_step p loops pc s (record { next = next.At q; state = state_behind w.change s }) (stop.Head q) (leads_to (next.At q) e) (mark q true e m, refl);
      left = (ws, k, parts.1, refl, in_range);
    }
    at_line q false e m k later =
        let t = later k in
        record {
          met = t.met;
          mid = t.mid;
          steps = one_step p loops pc s (record { next = next.At q; state = state_behind w.change s }) q t.met t.mid (leads_to (next.At q) e) (refl, mark q false e m) t.steps;
          left = t.left;
        }

    by_next : (n : Next) → w.next ≡ n → Onward loops n ws end (λ q. B q ws end) (λ q. IsChainTo p loops B q ws end)
        → ((q : ℕ) → IsChainTo p loops B q ws end → Front p loops B q (state_behind w.change s) end (ended ws (state_behind w.change s)))
        → Front p loops B pc s end (ended ws (state_behind w.change s))
    by_next (next.Halted h) e k later = record {
      met = stop.Halted h;
      mid = state_behind w.change s;
      steps = last_step p loops pc s (record { next = next.Halted h; state = state_behind w.change s }) (stop.Halted h) (leads_to (next.Halted h) e) refl;
      left = (k.1, ap (λ (x : List Way). ended x (state_behind w.change s)) k.0);
    }
    by_next (next.At q) e k later = at_line q (is_head loops q) e refl k (later q)

-- the ways of leading assertions that fit a state, stepped
leads_through : (p : Procedure) (head : ℕ) → WaysAreSteps → IsChecked p → (lines : List ℕ) (ws : List Way) (s : State) (end : Stop)
    → IsInRange p.places s → Leads p head lines ws end → fits ws s ≡ true → StepsThrough p head lines s end (ended ws s)
leads_through p head law c [] ws s end r h f = (h.1, ap (λ (x : List Way). ended x s) h.0)
leads_through p head law c (a ∷ lines) [] s end r h f = absurd h
leads_through p head law c (a ∷ lines) (w ∷ ws) s end r h f =
    by_next w.next refl h.1 (λ k. leads_through p head law c lines ws (state_behind w.change s) end in_range k parts.1)
  where
    parts : (all_hold w.literals s ≡ true) × (fits ws (state_behind w.change s) ≡ true)
    parts = and_parts (all_hold w.literals s) (fits ws (state_behind w.change s)) f

    stepped : step p a s ≡ led_by w s
    stepped = law p a s w c r h.0 parts.0

    in_range : IsInRange p.places (state_behind w.change s)
    in_range = subst (λ (x : Step). IsInRange p.places x.state) stepped (step-kept p a s c r).in_range

    past : (t : Step) → step p a s ≡ t → StepsPast t end (ended ws (state_behind w.change s)) (StepsThrough p head lines t.state end (ended ws (state_behind w.change s)))
        → StepsThrough p head (a ∷ lines) s end (ended ws (state_behind w.change s))
    past t e k =
        subst (λ (x : Step). StepsPast x end (ended ws (state_behind w.change s)) (StepsThrough p head lines x.state end (ended ws (state_behind w.change s)))) (sym e) k

    by_next : (n : Next) → w.next ≡ n → Passes n ws end (Leads p head lines ws end)
        → (Leads p head lines ws end → StepsThrough p head lines (state_behind w.change s) end (ended ws (state_behind w.change s)))
        → StepsThrough p head (a ∷ lines) s end (ended ws (state_behind w.change s))
    by_next (next.Halted h) e k later =
        past (record { next = next.Halted h; state = state_behind w.change s })
        (stepped ∙ ap (λ (x : Next). let k : Step = record { next = x; state = state_behind w.change s } in k) e)
        (k.1, ap (λ (x : List Way). ended x (state_behind w.change s)) k.0)
    by_next (next.At q) e k later =
        past (record { next = next.At q; state = state_behind w.change s })
        (stepped ∙ ap (λ (x : Next). let k : Step = record { next = x; state = state_behind w.change s } in k) e)
        (later k)

-- a chain that fits a state leads to its stop and to the state behind its ways
pub chain_steps : (p : Procedure) (loops : List LoopInfo) (pc : ℕ) (ws : List Way) (s : State) (end : Stop) → WaysAreSteps → IsChecked p → IsInRange p.places s
    → IsChain p loops pc ws end → fits ws s ≡ true → StepsTo p loops pc s end (ended ws s)
chain_steps p loops pc ws s end law c r h f =
    let t = chain_front p loops (λ q. StopsAt (stop.Head q)) law c ws pc s end r h f in
    by_met t.met t.mid t.steps t.left
  where
    by_met : (met : Stop) (mid : State) → StepsTo p loops pc s met mid → Left p (λ q. StopsAt (stop.Head q)) met mid end (ended ws s) → StepsTo p loops pc s end (ended ws s)
    by_met (stop.Halted k) mid steps l = subst (λ (x : Stop). StepsTo p loops pc s x (ended ws s)) (sym l.0) (subst (λ (x : State). StepsTo p loops pc s (stop.Halted k) x) (sym l.1) steps)
    by_met (stop.Head q) mid steps l =
        subst (λ (x : Stop). StepsTo p loops pc s x (ended ws s)) (sym l.1.1)
        (subst (λ (x : State). StepsTo p loops pc s (stop.Head q) x) (sym (l.3 ∙ ap (λ (x : List Way). ended x mid) l.1.0)) steps)

pub long_chain_steps : (p : Procedure) (loops : List LoopInfo) (pc : ℕ) (ws : List Way) (s : State) (end : Stop) → WaysAreSteps → IsChecked p → IsInRange p.places s
    → IsLongChain p loops pc ws end → fits ws s ≡ true → LongStepsTo p loops pc s end (ended ws s)
long_chain_steps p loops pc ws s end law c r h f =
    let t = chain_front p loops (λ q. Leads p q (leading_of loops q)) law c ws pc s end r h f in
    (t.met, t.mid, t.steps, by_met t.met t.mid t.left)
  where
    by_met : (met : Stop) (mid : State) → Left p (λ q. Leads p q (leading_of loops q)) met mid end (ended ws s) → StepsOn p loops met mid end (ended ws s)
    by_met (stop.Halted k) mid l = l
    by_met (stop.Head q) mid l =
        subst (λ (x : State). StepsOn p loops (stop.Head q) mid end x) (sym l.3) (leads_through p q law c (leading_of loops q) l.0 mid end l.4 l.1 l.2)
