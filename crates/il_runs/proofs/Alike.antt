-- The expanded run goes as the stack machine does.
use Rattle.std.proofs.Common.{◌≡◌, refl, sym, ap, ◌∙◌, subst, ℕ, zero, suc, ◌+◌, ◌-◌, ◌<◌, inl, inr, pos, Bool, Some, List, length, get_or, slice_get, arith}
use Rattle.std.specs.Prelude.{if◌then◌else◌}
use Rattle.std.proofs.lemmas.Bool.{lt-ltb, le-ltb}
use Rattle.std.proofs.lemmas.Option.{same_Some, slice_get_within}
use Rattle.il_core.specs.Evaluation.{State}
use Rattle.il_core.specs.Run.{HaltsAfter, IsInRange}
use Rattle.il_core.specs.declared.line.Halt.{Halt}
use Rattle.il_core.specs.declared.line.Place.{Place}
use Rattle.il_called.specs.Called.{WrittenProcedure, WrittenText}
use Rattle.il_called.specs.Expansion.{Callee, Expansion, procedure_in, variables_in, expansion_of, callees_of}
use Rattle.il_inline.specs.Stack.{Stack, Turn, runs, halts, turn}
use Rattle.il_inline.proofs.Known.{made, count_callees, Known, known_at}
use Rattle.il_inline.proofs.Sizes.{length_lines}
use Rattle.il_inline.proofs.Texts.{there}
use Rattle.il_runs.specs.Moved.{HasValues}
use Rattle.il_runs.specs.Runs.{Turns, TurnsHalt, alone, own_number, FirstStands, HaltsAlike, Starts, EndAlike, RunsAlike}
use Rattle.il_runs.proofs.Chain.{World, wide_of, main_of, FirstHas, chain_first, Stands, Reaches, Ends, Simulated}
use Rattle.il_runs.proofs.Determined.{halts_later, halts_here}
use Rattle.il_runs.proofs.Fit.{begins_before}
use Rattle.il_runs.proofs.Numbers.{own_cases, wide_length}
use Rattle.il_runs.proofs.Origins.{comes_from}
use Rattle.il_runs.proofs.Seat.{own_in, main_is}
use Rattle.il_runs.proofs.Turns.{simulated}
use Rattle.il_runs.proofs.Walk.{then_steps, no_steps}

values_renumbered : (f g : ℕ → ℕ) (places wide : List Place) (s t : State) → ((k : ℕ) → f k ≡ g k) → HasValues f places wide s t → HasValues g places wide s t
values_renumbered f g places wide s t same v = record {
  size = v.size;
  wide_size = v.wide_size;
  each = λ k h. ap (λ m. get_or t m (pos 0)) (sym (same k)) ∙ v.each k h;
}

-- the numbers of the first procedure's own places
own_same : (w : World) (k : ℕ) → own_in (main_of w) k ≡ own_number w.written.places (wide_of w).places k
own_same w k =
    let l = wide_length w.before w.number w.written w.known.in_order in
    elim (own_cases w.before w.written k) [
      | inl a ↦
          let e = a.1 in
          let zeros : own_in (main_of w) k ≡ k = omega arith in
          zeros ∙ sym (ap (λ (b : Bool). if b then k else k + (length (wide_of w).places - length w.written.places)) (lt-ltb k (length (variables_in w.written.places)) a.0))
      | inr a ↦
          let e = a.1 in
          let moved : own_in (main_of w) k ≡ k + (length (wide_of w).places - length w.written.places) = omega arith in
          moved ∙ sym (ap (λ (b : Bool). if b then k else k + (length (wide_of w).places - length w.written.places)) (le-ltb k (length (variables_in w.written.places)) a.0))
    ]

first_stands : (w : World) (stack : Stack) (t : State) → FirstHas w stack.last stack.below t → FirstStands w.written (wide_of w) stack t
first_stands w stack t v = values_renumbered (own_in (main_of w)) (own_number w.written.places (wide_of w).places) w.written.places (wide_of w).places _ t (own_same w) v

-- so many turns are simulated one after the other
reached : (w : World) (n : ℕ) (from to : Stack) (pc : ℕ) (t : State) → Stands w from pc t → Turns w.text.procs n from to → Reaches w to pc t
reached w zero from to pc t st turns = record {
  count = 0;
  line = pc;
  state = t;
  steps = no_steps (procedure_in (wide_of w)) pc pc t refl;
  stands = subst (λ (s : Stack). Stands w s pc t) turns st;
}
reached w (suc n) from to pc t st turns =
    let one : Simulated w from.last.procedure pc t (runs turns.0) = subst (λ (x : Turn). Simulated w from.last.procedure pc t x) turns.1 (simulated w from pc t st) in
    let first = one.0 in
    let rest = reached w n turns.0 to first.line first.state first.stands turns.2 in
    record {
      count = first.count + rest.count;
      line = rest.line;
      state = rest.state;
      steps = then_steps (procedure_in (wide_of w)) first.count rest.count pc first.line rest.line t first.state rest.state first.steps rest.steps;
      stands = rest.stands;
    }

-- a run that halts, from where a stack stands
record HaltsFrom (w : World) (stack : Stack) (other : Halt) (state : State) : Type 0 where
  count : ℕ
  procedure : ℕ
  halt : Halt
  end : Stack
  halts : TurnsHalt w.text.procs count stack procedure halt end
  alike : EndAlike w.written (wide_of w) procedure halt end other state

-- the stack machine halts too: by what is left of the run, and then by the number of the last frame's procedure
abbrev HaltsWithin : World → Halt → State → ℕ → Type 0
HaltsWithin w other state limit = (stack : Stack) (m pc : ℕ) (t : State) → m < limit → Stands w stack pc t → HaltsAfter (procedure_in (wide_of w)) m pc t other state
    → HaltsFrom w stack other state

halts_next : (w : World) (other : Halt) (state : State) (limit bound : ℕ) → HaltsWithin w other state limit → (stack : Stack) (m pc : ℕ) (t : State) → m < suc limit
    → stack.last.procedure < bound → Stands w stack pc t → HaltsAfter (procedure_in (wide_of w)) m pc t other state → HaltsFrom w stack other state
halts_next w other state limit zero less stack m pc t small low st h = absurd (omega arith)
halts_next w other state limit (suc bound) less stack m pc t small low st h =
    by_turn (λ to k line u below lower stands left. halts_next w other state limit bound less to k line u below lower stands left)
    (turn w.text.procs stack) refl (simulated w stack pc t st)
  where
    more : (to : Stack) → turn w.text.procs stack ≡ runs to → HaltsFrom w to other state → HaltsFrom w stack other state
    more to e r = record {
      count = suc r.count;
      procedure = r.procedure;
      halt = r.halt;
      end = r.end;
      halts = record { last = r.halts.last; turns = (to, e, r.halts.turns); halts = r.halts.halts };
      alike = r.alike;
    }

    by_turn : ((to : Stack) (k line : ℕ) (u : State) → k < suc limit → to.last.procedure < bound → Stands w to line u → HaltsAfter (procedure_in (wide_of w)) k line u other state
        → HaltsFrom w to other state)
        → (x : Turn) → turn w.text.procs stack ≡ x → Simulated w stack.last.procedure pc t x → HaltsFrom w stack other state
    by_turn again (runs to) e one =
        let r = one.0 in
        let later = halts_later (procedure_in (wide_of w)) r.count m pc r.line t r.state state other r.steps h in
        let counted = later.count in
        elim one.1 [
          | inl some ↦ more to e (less to later.left r.line r.state (omega arith) r.stands later.halts)
          | inr lower ↦ more to e (again to later.left r.line r.state (omega arith) (omega arith) r.stands later.halts)
        ]
    by_turn again (halts procedure halt end) e r =
        let later = halts_later (procedure_in (wide_of w)) r.count m pc r.line t r.state state other r.steps h in
        let same = halts_here (procedure_in (wide_of w)) later.left r.line r.state state r.other other r.halts later.halts in
        record {
          count = 0;
          procedure = procedure;
          halt = halt;
          end = end;
          halts = record { last = stack; turns = refl; halts = e };
          alike = record {
            halts = subst (λ (x : Halt). HaltsAlike (wide_of w).origins procedure halt x) same.halts r.alike;
            first = subst (λ (x : State). FirstStands w.written (wide_of w) end x) same.states (first_stands w end r.state r.first);
          };
        }

halts_within : (w : World) (other : Halt) (state : State) (limit : ℕ) → HaltsWithin w other state limit
halts_within w other state zero = λ stack m pc t small st h. absurd (omega arith)
halts_within w other state (suc limit) = λ stack m pc t small st h.
    halts_next w other state limit (suc stack.last.procedure) (halts_within w other state limit) stack m pc t small (omega arith) st h

-- the first frame stands at the first line
begun : (w : World) (s t : State) → IsInRange (wide_of w).places t → HasValues (own_number w.written.places (wide_of w).places) w.written.places (wide_of w).places s t
    → Stands w (alone w.number s) 0 t
begun w s t in_range same =
    let lines = length_lines w.before w.written w.known.calls in
    let some = w.known.checked.some_lines in
    let first = there w.written.lines 0 (begins_before w.before w.written.lines 0 (omega arith)) in
    record {
      seat = main_of w;
      is = main_is w.text w.number w.written w.before w.checked w.known;
      number = refl;
      values = values_renumbered (own_number w.written.places (wide_of w).places) (own_in (main_of w)) w.written.places (wide_of w).places s t (λ k. sym (own_same w k)) same;
      line = first.0;
      at = first.1;
      stands = omega arith;
      in_range = in_range;
      chain = refl;
    }

world_alike : (w : World) (s t : State) → IsInRange (wide_of w).places t → HasValues (own_number w.written.places (wide_of w).places) w.written.places (wide_of w).places s t
    → RunsAlike w.text.procs w.number w.written (wide_of w) s t
world_alike w s t in_range same = record {
  follows = λ n stack turns.
      let r = reached w n (alone w.number s) stack 0 t start turns in
      record {
        count = r.count;
        line = r.line;
        state = r.state;
        steps = r.steps;
        comes = comes_from w stack r.line r.state r.stands;
        first = first_stands w stack r.state (chain_first w r.state stack.last stack.below r.stands.seat r.stands.values r.stands.chain);
      };
  halts = λ n procedure halt stack h.
      let r = reached w n (alone w.number s) h.last 0 t start h.turns in
      let e : Ends w procedure halt stack r.line r.state =
      subst (λ (x : Turn). Simulated w h.last.last.procedure r.line r.state x) h.halts (simulated w h.last r.line r.state r.stands) in
      record {
        count = r.count + e.count;
        other = e.other;
        state = e.state;
        halts = record {
          last = e.line;
          steps = then_steps (procedure_in (wide_of w)) r.count e.count 0 r.line e.line t r.state e.state r.steps e.steps;
          halts = e.halts;
        };
        alike = record { halts = e.alike; first = first_stands w stack e.state e.first };
      };
  only = λ n other state h.
      let r = halts_within w other state (suc n) (alone w.number s) n 0 t (omega arith) start h in
      record { count = r.count; procedure = r.procedure; halt = r.halt; stack = r.end; halts = r.halts; alike = r.alike };
}
  where
    start : Stands w (alone w.number s) 0 t
    start = begun w s t in_range same

pub runs_alike : (t : WrittenText) (number : ℕ) (p : WrittenProcedure) (e : Expansion) (s wide : State) → Starts t number p e s wide → RunsAlike t.procs number p e s wide
runs_alike t number p e s wide starts = subst Alike expanded alike starts.expanded.in_range starts.same
  where
    q : (x : WrittenProcedure) × (slice_get t.procs number ≡ Some x)
    q =
        let counts = count_callees t.procs in
        let small = slice_get_within (callees_of t.procs) number _ starts.there in
        there t.procs number (omega arith)

    f : (before : List Callee) × Known t.procs number q.0 before
    f = known_at t number q.0 starts.checked q.1

    same : made f.0 number q.0 ≡ record { written = p; expanded = e }
    same = same_Some _ _ (sym f.1.is ∙ starts.there)

    written : q.0 ≡ p
    written = ap (λ (y : Callee). y.written) same

    known : Known t.procs number p f.0
    known = subst (λ (x : WrittenProcedure). Known t.procs number x f.0) written f.1

    expanded : expansion_of f.0 number p ≡ e
    expanded = ap (expansion_of f.0 number) (sym written) ∙ ap (λ (y : Callee). y.expanded) same

    Alike : Expansion → Type 0
    Alike x = IsInRange x.places wide → HasValues (own_number p.places x.places) p.places x.places s wide → RunsAlike t.procs number p x s wide

    alike : Alike (expansion_of f.0 number p)
    alike in_range values = world_alike (record { text = t; checked = starts.checked; number = number; written = p; before = f.0; known = known }) s wide in_range values
