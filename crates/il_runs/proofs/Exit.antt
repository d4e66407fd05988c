-- The lines of a call's exit run as the stack machine hands the parameters back.
use Rattle.std.proofs.Common.{◌≡◌, refl, sym, ap, ◌∙◌, subst, ℕ, suc, ◌+◌, ◌<◌, ◌≤◌, inl, inr, pos, Bool, true, false, cond, Option, Some, None, List, [], ◌∷◌, ◌++◌, length, slice_get, slice_set, arith}
use Rattle.std.specs.Prelude.{◌⊎◌}
use Rattle.std.proofs.lemmas.List.{get_or-set_other}
use Rattle.std.proofs.lemmas.Option.{same_Some, slice_get_within}
use Rattle.il_core.specs.Checked.{HasRange, IsSoundAssignment}
use Rattle.il_core.specs.Evaluation.{State, value_at}
use Rattle.il_core.specs.Machine.{goes, stays, kept, step}
use Rattle.il_core.specs.Procedure.{Instruction, assign}
use Rattle.il_core.specs.Run.{Steps, IsInRange}
use Rattle.il_core.specs.declared.line.Halt.{Halt}
use Rattle.il_core.specs.declared.line.Halt.TheVariants.{Range}
use Rattle.il_core.specs.declared.line.Place.{Place}
use Rattle.il_called.specs.Called.{Passed, value, variable_of}
use Rattle.il_called.specs.Expansion.{procedure_in, is_returned, own_place, read_as, left_behind, handed_back}
use Rattle.il_inline.specs.Stack.{Gift, gives, faults, stored_in, Handed, handed_on, all_back}
use Rattle.il_inline.proofs.Texts.{there}
use Rattle.il_runs.specs.Moved.{IsAmong, HasValues, halt_at}
use Rattle.il_runs.proofs.Blocks.{Sit, sit_first, sit_rest}
use Rattle.il_runs.proofs.Chain.{World, wide_of, width_at}
use Rattle.il_runs.proofs.Effects.{SameOutside, same_itself, same_then, same_set, IsAt}
use Rattle.il_runs.proofs.Enter.{assign_stands, assign_fits}
use Rattle.il_runs.proofs.Gifts.{by_gift, GiftAt, stored_at, back_step, suits_flag}
use Rattle.il_runs.proofs.Numbers.{own_back, own_below, own_there}
use Rattle.il_runs.proofs.Seat.{Seat, expansion_at, place_in, line_in, own_in, IsSeat, seat_stand}
use Rattle.il_runs.proofs.Steps.{set_alike}
use Rattle.il_runs.proofs.Walk.{step_is, no_steps, step_more, step_in_range}

-- all lines are run, or the run halts on one of them
abbrev pub LeftAt : World → Seat → ℕ → ℕ → ℕ → ℕ → State → Option Halt → Type 0
LeftAt w seat n count lx number u None = (number ≡ count) × (lx + number < length (expansion_at seat).lines)
LeftAt w seat n count lx number u (Some halt) =
    (number < count) × IsAt n halt × (step (procedure_in (wide_of w)) (line_in seat lx + number) u ≡ stays (halt_at (line_in seat lx + number) halt) u)

-- the caller's values as they are then, of which the run has changed no others
pub record Leaving (w : World) (seat : Seat) (n count lx : ℕ) (t : State) (handed : Handed) : Type 0 where
  pub number : ℕ
  pub state : State
  pub steps : Steps (procedure_in (wide_of w)) number (line_in seat lx) t (line_in seat lx + number) state
  pub values : HasValues (own_in seat) seat.written.places (wide_of w).places handed.values state
  pub same : SameOutside seat.place (seat.place + width_at seat) t state
  pub ends : LeftAt w seat n count lx number state handed.fault

-- what is known before a variable of the callee is handed back: the callee's values from number k on stand from number base on
pub record Leaves (w : World) (seat : Seat) (values : State) (base k count : ℕ) (s : State) (lx : ℕ) (t : State) : Type 0 where
  pub callee : (j : ℕ) → j < count → value_at t (place_in seat (base + j)) ≡ value_at values (k + j)
  pub caller : HasValues (own_in seat) seat.written.places (wide_of w).places s t
  pub in_range : IsInRange (wide_of w).places t
  pub inside : lx < length (expansion_at seat).lines

abbrev handed_in : Seat → ℕ → List Place → List Passed → List Instruction
handed_in seat base vs arguments = handed_back (own_place seat.before seat.written) base vs arguments

abbrev ExitRuns : World → Seat → ℕ → State → ℕ → ℕ → List Place → List Passed → Type 0
ExitRuns w seat n values base k vs arguments = (s : State) (lx : ℕ) (t : State) → Sit (expansion_at seat).lines lx (handed_in seat base vs arguments)
    → Leaves w seat values base k (length vs) s lx t
    → Leaving w seat n (length (handed_in seat base vs arguments)) lx t (all_back n seat.written.places values k vs arguments s)

-- a step and the rest
left_more : (w : World) (seat : Seat) (n count lx : ℕ) (t u : State) (handed : Handed) → step (procedure_in (wide_of w)) (line_in seat lx) t ≡ goes (line_in seat lx + 1) u
    → SameOutside seat.place (seat.place + width_at seat) t u → Leaving w seat n count (lx + 1) u handed → Leaving w seat n (suc count) lx t handed
left_more w seat n count lx t u handed goes_on same r = record {
  number = suc r.number;
  state = r.state;
  steps = step_more (procedure_in (wide_of w)) r.number (line_in seat lx) t u r.state goes_on
      (subst (λ m. Steps (procedure_in (wide_of w)) r.number m u (m + r.number) r.state) (let f : line_in seat (lx + 1) ≡ line_in seat lx + 1 = omega arith in f) r.steps);
  values = r.values;
  same = same_then _ _ _ _ _ same r.same;
  ends = by_fault handed.fault r.ends;
}
  where
    by_fault : (o : Option Halt) → LeftAt w seat n count (lx + 1) r.number r.state o → LeftAt w seat n (suc count) lx (suc r.number) r.state o
    by_fault None e = (ap suc e.0, let i = e.1 in omega arith)
    by_fault (Some h) e =
        let b = e.0 in
        let at : line_in seat (lx + 1) + r.number ≡ line_in seat lx + suc r.number = omega arith in
        (omega arith, e.1, subst (λ m. step (procedure_in (wide_of w)) m r.state ≡ stays (halt_at m h) r.state) at e.2)

-- where a variable of the callee that is handed back stands, among its own places
pub record IsBack (w : World) (seat : Seat) (lo hi base : ℕ) (v : Place) : Type 0 where
  pub outside : (k : ℕ) → k < length seat.written.places → (own_in seat k < lo) ⊎ (hi ≤ own_in seat k)
  pub low : lo ≤ place_in seat base
  pub among : IsAmong (wide_of w).places (place_in seat base) v
  pub range : HasRange v

-- a variable that is handed back to a variable of the caller
one_back : (w : World) (seat : Seat) (n : ℕ) (values : State) (base k lo hi p : ℕ) (v : Place) (vs : List Place) (arguments : List Passed) → IsSeat w.text.procs (wide_of w) seat
    → IsBack w seat lo hi base v → place_in seat (base + suc (length vs)) ≤ hi → ExitRuns w seat n values (suc base) (suc k) vs arguments → (s : State) (lx : ℕ) (t : State)
    → Sit (expansion_at seat).lines lx (assign (own_place seat.before seat.written p) (read_as v base) ∷ handed_in seat (suc base) vs arguments)
    → Leaves w seat values base k (suc (length vs)) s lx t
    → Leaving w seat n (suc (length (handed_in seat (suc base) vs arguments))) lx t
    (handed_on (all_back n seat.written.places values (suc k) vs arguments) s p
    (elim (slice_get seat.written.places p) [ None ↦ faults (Range n) | Some place ↦ stored_in n (kept place (value_at values k)) ]))
one_back w seat n values base k lo hi p v vs arguments is back high rest s lx t sits leaves =
    by_gift_of (elim (slice_get seat.written.places p) [ None ↦ faults (Range n) | Some place ↦ stored_in n (kept place (value_at values k)) ])
    (subst (GiftAt n) (sym gift) (stored_at n (kept place (value_at values k)))) (steps ∙ ap (by_gift line to t) (sym gift))
  where
    line : ℕ
    line = line_in seat lx

    own : ℕ
    own = own_place seat.before seat.written p

    to : ℕ
    to = own_in seat p

    first : slice_get (expansion_at seat).lines lx ≡ Some (assign own (read_as v base))
    first = sit_first _ _ _ _ sits

    sound : IsSoundAssignment (expansion_at seat).places own (read_as v base)
    sound = (is.known.checked.fits lx (assign own (read_as v base)) first).1

    below : p < length seat.written.places
    below = own_back seat.before seat.number seat.written p is.known.in_order (slice_get_within (expansion_at seat).places own sound.target sound.there)

    place : Place
    place = (there seat.written.places p below).0

    at : slice_get seat.written.places p ≡ Some place
    at = (there seat.written.places p below).1

    stands : slice_get (expansion_at seat).places own ≡ Some place
    stands = own_there seat.before seat.number seat.written p place is.known.in_order at

    flags : place.flag ≡ v.flag
    flags = ap (λ (x : Place). x.flag) (same_Some _ _ (sym stands ∙ sound.there)) ∙ suits_flag sound.target.flag v.flag (expansion_at seat).places base sound.typed

    among : IsAmong (wide_of w).places to place
    among = is.places own place stands

    gift : ◌≡◌ {A = Gift} (elim (slice_get seat.written.places p) [ None ↦ faults (Range n) | Some x ↦ stored_in n (kept x (value_at values k)) ]) (stored_in n (kept place (value_at values k)))
    gift = ap (λ (o : Option Place). elim o [ None ↦ faults (Range n) | Some x ↦ stored_in n (kept x (value_at values k)) ]) at

    has : value_at t (place_in seat base) ≡ value_at values k
    has =
        let e : base ≡ base + 0 = omega arith in
        let f : k + 0 ≡ k = omega arith in
        ap (λ m. value_at t (place_in seat m)) e ∙ leaves.callee 0 (omega arith) ∙ ap (value_at values) f

    steps : step (procedure_in (wide_of w)) line t ≡ by_gift line to t (stored_in n (kept place (value_at values k)))
    steps = step_is (wide_of w) line t _ (assign_stands w seat lx own (read_as v base) is first)
        ∙ back_step (wide_of w).places t (place_in seat) line n to base v place back.among among flags back.range leaves.in_range
        ∙ ap (λ x. by_gift line to t (stored_in n (kept place x))) has

    by_gift_of : (g : Gift) → GiftAt n g → step (procedure_in (wide_of w)) line t ≡ by_gift line to t g
        → Leaving w seat n (suc (length (handed_in seat (suc base) vs arguments))) lx t (handed_on (all_back n seat.written.places values (suc k) vs arguments) s p g)
    by_gift_of (faults h) on e = record {
      number = 0;
      state = t;
      steps = no_steps (procedure_in (wide_of w)) line (line + 0) t (omega arith);
      values = leaves.caller;
      same = same_itself _ _ t;
      ends = (omega arith, on, subst (λ m. step (procedure_in (wide_of w)) m t ≡ stays (halt_at m h) t) (let f : line ≡ line + 0 = omega arith in f) e);
    }
    by_gift_of (gives x) on e =
        let u = slice_set t to x in
        let wide = own_below seat.before seat.number seat.written p is.known.in_order below in
        let low = back.low in
        left_more w seat n (length (handed_in seat (suc base) vs arguments)) lx t u (all_back n seat.written.places values (suc k) vs arguments (slice_set s p x)) e
        (same_set seat.place (seat.place + width_at seat) t to x (omega arith) (omega arith))
        (rest (slice_set s p x) (lx + 1) u (sit_rest _ _ _ _ sits) (record {
          callee = λ j h.
              let a : place_in seat (suc base + j) ≡ place_in seat (base + suc j) = omega arith in
              let b : k + suc j ≡ suc k + j = omega arith in
              ap (value_at u) a
              ∙ get_or-set_other t to (place_in seat (base + suc j)) x (pos 0) (λ f. elim (back.outside p below) [ inl l ↦ absurd (omega arith) | inr r ↦ absurd (omega arith) ])
              ∙ leaves.callee (suc j) (omega arith) ∙ ap (value_at values) b;
          caller = set_alike (own_in seat) seat.written.places (wide_of w).places s t p x (seat_stand w.text.procs (wide_of w) seat is) leaves.caller below
              (slice_get_within (wide_of w).places to among.other among.there);
          in_range = step_in_range (procedure_in (wide_of w)) line (line + 1) t u w.known.checked e leaves.in_range;
          inside = (assign_fits w seat lx own (read_as v base) is first).inside;
        }))

-- a variable that is not
none_back : (w : World) (seat : Seat) (n : ℕ) (values : State) (base k : ℕ) (vs : List Place) (arguments : List Passed) → ExitRuns w seat n values (suc base) (suc k) vs arguments
    → (s : State) (lx : ℕ) (t : State) → Sit (expansion_at seat).lines lx (handed_in seat (suc base) vs arguments) → Leaves w seat values base k (suc (length vs)) s lx t
    → Leaving w seat n (length (handed_in seat (suc base) vs arguments)) lx t (all_back n seat.written.places values (suc k) vs arguments s)
none_back w seat n values base k vs arguments rest s lx t sits leaves = rest s lx t sits (record {
  callee = λ j h.
      let a : place_in seat (suc base + j) ≡ place_in seat (base + suc j) = omega arith in
      let b : k + suc j ≡ suc k + j = omega arith in
      ap (value_at t) a ∙ leaves.callee (suc j) (omega arith) ∙ ap (value_at values) b;
  caller = leaves.caller;
  in_range = leaves.in_range;
  inside = leaves.inside;
})

pub exit_run : (w : World) (seat : Seat) (n : ℕ) (values : State) (lo hi : ℕ) → IsSeat w.text.procs (wide_of w) seat
    → ((k : ℕ) → k < length seat.written.places → (own_in seat k < lo) ⊎ (hi ≤ own_in seat k))
    → (vs : List Place) (arguments : List Passed) (base k : ℕ) → ((j : ℕ) (v : Place) → slice_get vs j ≡ Some v → IsAmong (wide_of w).places (place_in seat (base + j)) v)
    → ((j : ℕ) (v : Place) → slice_get vs j ≡ Some v → HasRange v) → lo ≤ place_in seat base → place_in seat (base + length vs) ≤ hi
    → ExitRuns w seat n values base k vs arguments
exit_run w seat n values lo hi is outside [] arguments base k among ranges low high = λ s lx t sits leaves. record {
  number = 0;
  state = t;
  steps = no_steps (procedure_in (wide_of w)) (line_in seat lx) (line_in seat lx + 0) t (omega arith);
  values = leaves.caller;
  same = same_itself _ _ t;
  ends = (refl, let i = leaves.inside in omega arith);
}
exit_run w seat n values lo hi is outside (v ∷ vs) arguments base k among ranges low high =
    by_arguments arguments
    (λ given. exit_run w seat n values lo hi is outside vs given (suc base) (suc k)
    (λ j u e. subst (λ m. IsAmong (wide_of w).places (place_in seat m) u) (let f : base + suc j ≡ suc base + j = omega arith in f) (among (suc j) u e))
    (λ j u e. ranges (suc j) u e) (omega arith) (omega arith))
  where
    back : IsBack w seat lo hi base v
    back = record {
      outside = outside;
      low = low;
      among = subst (λ m. IsAmong (wide_of w).places (place_in seat m) v) (let f : base + 0 ≡ base = omega arith in f) (among 0 v refl);
      range = ranges 0 v refl;
    }

    by_mode : (p : ℕ) (given : List Passed) (b : Bool) → ExitRuns w seat n values (suc base) (suc k) vs given → (s : State) (lx : ℕ) (t : State)
        → Sit (expansion_at seat).lines lx (cond b (assign (own_place seat.before seat.written p) (read_as v base) ∷ []) [] ++ handed_in seat (suc base) vs given)
        → Leaves w seat values base k (suc (length vs)) s lx t
        → Leaving w seat n (length (cond b (assign (own_place seat.before seat.written p) (read_as v base) ∷ []) [] ++ handed_in seat (suc base) vs given)) lx t
        (cond b
        (handed_on (all_back n seat.written.places values (suc k) vs given) s p
        (elim (slice_get seat.written.places p) [ None ↦ faults (Range n) | Some place ↦ stored_in n (kept place (value_at values k)) ]))
        (all_back n seat.written.places values (suc k) vs given s))
    by_mode p given true rest s lx t sits leaves = one_back w seat n values base k lo hi p v vs given is back high rest s lx t sits leaves
    by_mode p given false rest s lx t sits leaves = none_back w seat n values base k vs given rest s lx t sits leaves

    by_arguments : (given : List Passed) → ((given : List Passed) → ExitRuns w seat n values (suc base) (suc k) vs given) → ExitRuns w seat n values base k (v ∷ vs) given
    by_arguments [] rest = none_back w seat n values base k vs (left_behind v.mode []) (rest (left_behind v.mode []))
    by_arguments (value e ∷ given) rest = none_back w seat n values base k vs (left_behind v.mode (value e ∷ given)) (rest (left_behind v.mode (value e ∷ given)))
    by_arguments (variable_of p ∷ given) rest = by_mode p (left_behind v.mode (variable_of p ∷ given)) (is_returned v.mode) (rest (left_behind v.mode (variable_of p ∷ given)))
