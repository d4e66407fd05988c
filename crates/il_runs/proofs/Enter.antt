-- The lines of a call's entry run as the stack machine gives the callee's variables their first values.
use Rattle.std.proofs.Common.{◌≡◌, refl, sym, ap, ◌∙◌, subst, ℕ, zero, suc, ◌+◌, ◌<◌, ◌≤◌, inl, ℤ, pos, Some, List, [], ◌∷◌, ◌++◌, length, slice_get, slice_set, arith}
use Rattle.std.specs.Prelude.{◌⊎◌}
use Rattle.std.proofs.Math.Seq.{get_or-append_seam}
use Rattle.std.proofs.lemmas.List.{length-append, get_or_append_left, get_or-set_same}
use Rattle.std.proofs.lemmas.Option.{slice_get_within}
use Rattle.il_core.specs.Checked.{HasRange}
use Rattle.il_core.specs.Evaluation.{State, value_at}
use Rattle.il_core.specs.Expression.{Expression}
use Rattle.il_core.specs.Machine.{goes, stays, step}
use Rattle.il_core.specs.Procedure.{assign}
use Rattle.il_core.specs.Run.{Steps}
use Rattle.il_core.specs.declared.line.Halt.{Halt}
use Rattle.il_core.specs.declared.line.Place.{Place}
use Rattle.il_called.specs.Called.{Passed}
use Rattle.il_called.specs.Expansion.{procedure_in, renumbered, own_place, first_value, entered, left_behind}
use Rattle.il_inline.specs.Stack.{Gift, gives, faults, Entry, enters, fails, first_of, entered_after, variables_given}
use Rattle.il_inline.specs.Within.{NamesBelow}
use Rattle.il_runs.specs.Moved.{IsAmong, HasValues, halt_at}
use Rattle.il_runs.proofs.Blocks.{Sit, sit_first, sit_rest}
use Rattle.il_runs.proofs.Chain.{World, wide_of, values_kept}
use Rattle.il_runs.proofs.Effects.{SameOutside, same_itself, same_then, same_wider, same_set, IsAt}
use Rattle.il_runs.proofs.Fit.{suits_named}
use Rattle.il_runs.proofs.Gifts.{by_gift, GiftAt, first_at, first_gift}
use Rattle.il_runs.proofs.Numbers.{own_back}
use Rattle.il_runs.proofs.Renumber.{assign_placed}
use Rattle.il_runs.proofs.Seat.{Seat, expansion_at, place_in, line_in, own_in, IsSeat}
use Rattle.il_runs.proofs.Walk.{step_is, no_steps, step_more}

-- an assignment in the procedure that sits here stands in the expansion
pub assign_stands : (w : World) (seat : Seat) (lx k : ℕ) (e : Expression) → IsSeat w.text.procs (wide_of w) seat → slice_get (expansion_at seat).lines lx ≡ Some (assign k e)
    → slice_get (wide_of w).lines (line_in seat lx) ≡ Some (assign (place_in seat k) (renumbered (place_in seat) e))
assign_stands w seat lx k e is at = is.lines lx (assign k e) at ∙ ap Some (assign_placed seat.called (place_in seat) (line_in seat) k e)

-- it names places of that procedure, and a line stands behind it
pub record AssignFits (seat : Seat) (lx : ℕ) (e : Expression) : Type 0 where
  pub names : NamesBelow (length (expansion_at seat).places) e
  pub inside : lx + 1 < length (expansion_at seat).lines

pub assign_fits : (w : World) (seat : Seat) (lx k : ℕ) (e : Expression) → IsSeat w.text.procs (wide_of w) seat → slice_get (expansion_at seat).lines lx ≡ Some (assign k e)
    → AssignFits seat lx e
assign_fits w seat lx k e is at =
    let f = is.known.checked.fits lx (assign k e) at in
    record { names = suits_named f.1.target.flag (expansion_at seat).places e f.1.typed; inside = f.0 }

-- the values so far and those of more places, which stand from a number on; and the run that gives them
pub record Entering (w : World) (seat : Seat) (k count l : ℕ) (t : State) (so_far values : State) : Type 0 where
  pub state : State
  pub steps : Steps (procedure_in (wide_of w)) count l t (l + count) state
  pub same : SameOutside (place_in seat k) (place_in seat (k + count)) t state
  pub size : length values ≡ length so_far + count
  pub kept : (j : ℕ) → j < length so_far → value_at values j ≡ value_at so_far j
  pub given : (j m q : ℕ) → j < count → m ≡ length so_far + j → q ≡ place_in seat (k + j) → value_at state q ≡ value_at values m

-- the run to the first assignment that faults
pub record Failing (w : World) (seat : Seat) (k count l n : ℕ) (t : State) (halt : Halt) : Type 0 where
  pub number : ℕ
  pub below : number < count
  pub state : State
  pub steps : Steps (procedure_in (wide_of w)) number l t (l + number) state
  pub halts : step (procedure_in (wide_of w)) (l + number) state ≡ stays (halt_at (l + number) halt) state
  pub at : IsAt n halt
  pub same : SameOutside (place_in seat k) (place_in seat (k + count)) t state

abbrev pub EntryRuns : World → Seat → ℕ → ℕ → ℕ → ℕ → State → State → Entry → Type 0
EntryRuns w seat k count l n t so_far (enters values) = Entering w seat k count l t so_far values
EntryRuns w seat k count l n t so_far (fails halt) = Failing w seat k count l n t halt

-- one more variable before the rest
entered_more : (w : World) (seat : Seat) (k count l n : ℕ) (t : State) (so_far : State) (x : ℤ) (entry : Entry)
    → step (procedure_in (wide_of w)) l t ≡ goes (l + 1) (slice_set t (place_in seat k) x) → place_in seat k < length t
    → EntryRuns w seat (suc k) count (l + 1) n (slice_set t (place_in seat k) x) (so_far ++ x ∷ []) entry → EntryRuns w seat k (suc count) l n t so_far entry
entered_more w seat k count l n t so_far x (enters values) goes_on among r =
    let longer : length (so_far ++ x ∷ []) ≡ length so_far + 1 = length-append so_far (x ∷ []) in
    let size = r.size in
    record {
      state = r.state;
      steps = step_more (procedure_in (wide_of w)) count l t (slice_set t (place_in seat k) x) r.state goes_on r.steps;
      same = same_then _ _ _ _ _ (same_set (place_in seat k) (place_in seat (k + suc count)) t (place_in seat k) x (omega arith) (omega arith))
          (same_wider _ _ _ _ _ _ (omega arith) (omega arith) r.same);
      size = omega arith;
      kept = λ j h. r.kept j (omega arith) ∙ get_or_append_left so_far (x ∷ []) (pos 0) j h;
      given = each;
    }
  where
    each : (j m q : ℕ) → j < suc count → m ≡ length so_far + j → q ≡ place_in seat (k + j) → value_at r.state q ≡ value_at values m
    each zero m q h e f =
        let longer : length (so_far ++ x ∷ []) ≡ length so_far + 1 = length-append so_far (x ∷ []) in
        let at : m ≡ length so_far = omega arith in
        let to : q ≡ place_in seat k = omega arith in
        ap (value_at r.state) to ∙ r.same.same (place_in seat k) (inl (omega arith)) ∙ get_or-set_same t (place_in seat k) x (pos 0) among
        ∙ sym (ap (value_at values) at ∙ r.kept (length so_far) (omega arith) ∙ get_or-append_seam so_far x [] (pos 0))
    each (suc j) m q h e f =
        let longer : length (so_far ++ x ∷ []) ≡ length so_far + 1 = length-append so_far (x ∷ []) in
        r.given j m q (omega arith) (omega arith) (omega arith)
entered_more w seat k count l n t so_far x (fails halt) goes_on among r = record {
  number = suc r.number;
  below = let b = r.below in omega arith;
  state = r.state;
  steps = step_more (procedure_in (wide_of w)) r.number l t (slice_set t (place_in seat k) x) r.state goes_on r.steps;
  halts = subst (λ m. step (procedure_in (wide_of w)) m r.state ≡ stays (halt_at m halt) r.state) line r.halts;
  at = r.at;
  same = same_then _ _ _ _ _ (same_set (place_in seat k) (place_in seat (k + suc count)) t (place_in seat k) x (omega arith) (omega arith))
      (same_wider _ _ _ _ _ _ (omega arith) (omega arith) r.same);
}
  where
    line : (l + 1) + r.number ≡ l + suc r.number
    line = omega arith

pub entered_run : (w : World) (seat : Seat) (n : ℕ) (s : State) (lo hi : ℕ) → IsSeat w.text.procs (wide_of w) seat
    → ((k : ℕ) → k < length seat.written.places → (own_in seat k < lo) ⊎ (hi ≤ own_in seat k))
    → (vs : List Place) (arguments : List Passed) (so_far : State) (lx k : ℕ) (t : State)
    → Sit (expansion_at seat).lines lx (entered seat.written.places (own_place seat.before seat.written) k vs arguments)
    → ((j : ℕ) (v : Place) → slice_get vs j ≡ Some v → IsAmong (wide_of w).places (place_in seat (k + j)) v)
    → ((j : ℕ) (v : Place) → slice_get vs j ≡ Some v → HasRange v) → lo ≤ place_in seat k → place_in seat (k + length vs) ≤ hi
    → HasValues (own_in seat) seat.written.places (wide_of w).places s t
    → EntryRuns w seat k (length vs) (line_in seat lx) n t so_far (variables_given n seat.written.places s vs arguments so_far)
entered_run w seat n s lo hi is outside [] arguments so_far lx k t sits among ranges low high values = record {
  state = t;
  steps = no_steps (procedure_in (wide_of w)) (line_in seat lx) (line_in seat lx + 0) t (omega arith);
  same = same_itself _ _ t;
  size = omega arith;
  kept = λ j h. refl;
  given = λ j m q h e f. absurd (omega arith);
}
entered_run w seat n s lo hi is outside (v ∷ vs) arguments so_far lx k t sits among ranges low high values =
    by_first (first_of n seat.written.places s v arguments) (first_at n seat.written.places s v arguments) steps
    (λ x. entered_run w seat n s lo hi is outside vs (left_behind v.mode arguments) (so_far ++ x ∷ []) (lx + 1) (suc k) (slice_set t (place_in seat k) x)
    (sit_rest _ _ _ _ sits) (λ j u e. subst (λ m. IsAmong (wide_of w).places (place_in seat m) u) (let f : k + suc j ≡ suc k + j = omega arith in f) (among (suc j) u e))
    (λ j u e. ranges (suc j) u e) (omega arith) (omega arith)
    (values_kept w t (slice_set t (place_in seat k) x) seat seat.written.places s lo hi (same_set lo hi t (place_in seat k) x (omega arith) (omega arith)) outside values))
  where
    line : ℕ
    line = line_in seat lx

    value : Expression
    value = first_value seat.written.places (own_place seat.before seat.written) v arguments

    here : IsAmong (wide_of w).places (place_in seat k) v
    here = subst (λ m. IsAmong (wide_of w).places (place_in seat m) v) (let f : k + 0 ≡ k = omega arith in f) (among 0 v refl)

    steps : step (procedure_in (wide_of w)) line t ≡ by_gift line (place_in seat k) t (first_of n seat.written.places s v arguments)
    steps =
        let at = sit_first _ _ _ _ sits in
        step_is (wide_of w) line t _ (assign_stands w seat lx k value is at)
        ∙ first_gift seat.written.places (wide_of w).places s t (place_in seat) (own_place seat.before seat.written) (own_in seat) n line (place_in seat k) (length (expansion_at seat).places)
        v arguments here (ranges 0 v refl) values (λ j. refl) (λ j h. own_back seat.before seat.number seat.written j is.known.in_order h) (assign_fits w seat lx k value is at).names

    by_first : (g : Gift) → GiftAt n g → step (procedure_in (wide_of w)) line t ≡ by_gift line (place_in seat k) t g
        → ((x : ℤ) → EntryRuns w seat (suc k) (length vs) (line_in seat (lx + 1)) n (slice_set t (place_in seat k) x) (so_far ++ x ∷ [])
        (variables_given n seat.written.places s vs (left_behind v.mode arguments) (so_far ++ x ∷ [])))
        → EntryRuns w seat k (suc (length vs)) line n t so_far (entered_after g (λ x. variables_given n seat.written.places s vs (left_behind v.mode arguments) (so_far ++ x ∷ [])))
    by_first (faults h) at e rest = record {
      number = 0;
      below = omega arith;
      state = t;
      steps = no_steps (procedure_in (wide_of w)) line (line + 0) t (omega arith);
      halts = subst (λ m. step (procedure_in (wide_of w)) m t ≡ stays (halt_at m h) t) (let f : line ≡ line + 0 = omega arith in f) e;
      at = at;
      same = same_itself _ _ t;
    }
    by_first (gives x) at e rest =
        let size = values.wide_size in
        let inside = slice_get_within (wide_of w).places (place_in seat k) here.other here.there in
        entered_more w seat k (length vs) line n t so_far x (variables_given n seat.written.places s vs (left_behind v.mode arguments) (so_far ++ x ∷ [])) e (omega arith)
        (subst (λ m. EntryRuns w seat (suc k) (length vs) m n (slice_set t (place_in seat k) x) (so_far ++ x ∷ [])
        (variables_given n seat.written.places s vs (left_behind v.mode arguments) (so_far ++ x ∷ []))) (let f : line_in seat (lx + 1) ≡ line + 1 = omega arith in f) (rest x))
