-- A call is simulated by the lines of its entry, behind which its callee's frame stands at its first line.
use Rattle.std.proofs.Common.{◌≡◌, refl, sym, ap, ◌∙◌, subst, ℕ, ◌+◌, ◌-◌, ◌<◌, ◌≤◌, inl, inr, ℤ, pos, Some, List, [], length, map, slice_get, arith}
use Rattle.std.specs.Prelude.{◌⊎◌, filter, sum_by}
use Rattle.std.specs.Option.{option_map}
use Rattle.std.proofs.lemmas.Bool.{cases_lt}
use Rattle.std.proofs.lemmas.List.{length-append, length-map, get_or_append_left, get_or-append-add}
use Rattle.std.proofs.lemmas.Option.{slice_get_within, slice_get-map, get_or_from_slice_get}
use Rattle.il_core.specs.Checked.{HasRange, old_copy, is_copied, AreInOrder}
use Rattle.il_core.specs.Evaluation.{State, value_at}
use Rattle.il_core.specs.Run.{Steps, inout_from}
use Rattle.il_core.specs.declared.line.Place.{Place}
use Rattle.il_called.specs.Called.{Passed, call, WrittenProcedure}
use Rattle.il_called.specs.Expansion.{Callee, procedure_in, variables_in, start_of, base_of, own_place, brings, origin_at}
use Rattle.il_inline.specs.Stack.{Frame, Entry, enters, fails, variables_given, with_copies, called_with}
use Rattle.il_inline.proofs.Known.{made}
use Rattle.il_inline.proofs.Sizes.{length_lines}
use Rattle.il_inline.proofs.Texts.{kept_left, there}
use Rattle.il_runs.specs.Moved.{IsAlike, IsAmong, Stand, HasValues, halt_at}
use Rattle.il_runs.proofs.Blocks.{CallSits, call_sits}
use Rattle.il_runs.proofs.Chain.{World, wide_of, width_at, values_kept, chain_kept, chain_first, Simulated}
use Rattle.il_runs.proofs.Copy.{IsCopied, Copying, copied_run}
use Rattle.il_runs.proofs.Effects.{SameOutside, same_then, same_wider}
use Rattle.il_runs.proofs.Enter.{Entering, EntryRuns, entered_run}
use Rattle.il_runs.proofs.Fit.{begins_before}
use Rattle.il_runs.proofs.Inouts.{places_count, HasCopy, has_copy}
use Rattle.il_runs.proofs.Numbers.{own_cases, own_there, own_outside, BlockFits, block_fits, wide_length}
use Rattle.il_runs.proofs.Own.{Here, stack_of, halts_at}
use Rattle.il_runs.proofs.Seat.{Seat, expansion_at, place_in, line_in, own_in, start_in, IsSeat, seat_stand, called_seat, CallKnown, called_is}
use Rattle.il_runs.proofs.Walk.{then_steps, steps_in_range}

-- the call on a line of the procedure that sits here
pub record CallHere (w : World) (seat : Seat) (n c : ℕ) (arguments : List Passed) (it : CallKnown w.text.procs seat n c arguments) : Type 0 where
  pub is : IsSeat w.text.procs (wide_of w) (called_seat seat n c it.callee it.before)
  pub sits : CallSits seat.before seat.number seat.written n arguments (made it.before c it.callee) (expansion_at seat).lines (expansion_at seat).origins
  pub block : BlockFits seat.before seat.written n (width_at (called_seat seat n c it.callee it.before))

pub call_here : (w : World) (seat : Seat) (n c : ℕ) (arguments : List Passed) → IsSeat w.text.procs (wide_of w) seat → slice_get seat.written.lines n ≡ Some (call c arguments)
    → (it : CallKnown w.text.procs seat n c arguments) → CallHere w seat n c arguments it
call_here w seat n c arguments is at it = record {
  is = called_is w.text (wide_of w) seat n c arguments w.checked is at it;
  sits = subst (λ (y : Callee). CallSits seat.before seat.number seat.written n arguments y (expansion_at seat).lines (expansion_at seat).origins) it.same
      (call_sits seat.before seat.number seat.written n c arguments it.fits is.known.calls is.earlier at);
  block = subst (λ (y : Callee). BlockFits seat.before seat.written n (length y.expanded.places)) it.same (block_fits seat.before seat.written n c arguments it.fits at);
}

among_at : (wide : List Place) (j k : ℕ) (place : Place) → j ≡ k → IsAmong wide j place → IsAmong wide k place
among_at wide j k place e a = subst (λ m. IsAmong wide m place) e a

-- where the callee's variables stand
pub record VariablesStand (w : World) (seat : Seat) (base : ℕ) (vs : List Place) : Type 0 where
  pub among : (j : ℕ) (v : Place) → slice_get vs j ≡ Some v → IsAmong (wide_of w).places (place_in seat (base + j)) v
  pub ranges : (j : ℕ) (v : Place) → slice_get vs j ≡ Some v → HasRange v

variable_there : (q : WrittenProcedure) (j : ℕ) (v : Place) → AreInOrder q.places → slice_get (variables_in q.places) j ≡ Some v → slice_get q.places j ≡ Some v
variable_there q j v order e = ap (λ (l : List Place). slice_get l j) order ∙ kept_left (variables_in q.places) (map old_copy (filter is_copied (variables_in q.places))) j v e

-- the number of a variable of the callee among the caller's places
pub variable_number : (seat : Seat) (n c : ℕ) (q : WrittenProcedure) (before : List Callee) (j : ℕ) → j < length (variables_in q.places)
    → own_in (called_seat seat n c q before) j ≡ place_in seat (base_of seat.before seat.written n + j)
variable_number seat n c q before j h = elim (own_cases before q j) [
  | inl a ↦ let e = a.1 in omega arith
  | inr a ↦ absurd (let f = a.0 in omega arith)
]

pub variables_stand : (w : World) (seat : Seat) (n c : ℕ) (q : WrittenProcedure) (before : List Callee) → IsSeat w.text.procs (wide_of w) (called_seat seat n c q before)
    → VariablesStand w seat (base_of seat.before seat.written n) (variables_in q.places)
variables_stand w seat n c q before is = record {
  among = λ j v e.
      let at = variable_there q j v is.known.in_order e in
      among_at (wide_of w).places (own_in (called_seat seat n c q before) j) (place_in seat (base_of seat.before seat.written n + j)) v
      (variable_number seat n c q before j (slice_get_within (variables_in q.places) j v e))
      ((seat_stand w.text.procs (wide_of w) (called_seat seat n c q before) is).each j v at);
  ranges = λ j v e.
      let at = variable_there q j v is.known.in_order e in
      is.known.checked.ranges (own_place before q j) v (own_there before c q j v is.known.in_order at);
}

-- the callee's variables and their copies stand where the entry gives them values
copy_stands : (w : World) (seat : Seat) (n c : ℕ) (q : WrittenProcedure) (before : List Callee) (j m : ℕ) → IsSeat w.text.procs (wide_of w) (called_seat seat n c q before)
    → slice_get (inout_from 0 q.places) j ≡ Some m
    → IsCopied w seat q.places (base_of seat.before seat.written n)
    ((base_of seat.before seat.written n + (width_at (called_seat seat n c q before) - length (inout_from 0 q.places))) + j) m
copy_stands w seat n c q before j m is e = record {
  place = h.place;
  there = h.there;
  range = is.known.checked.ranges (own_place before q m) h.place (own_there before c q m h.place is.known.in_order h.there);
  from = among_at (wide_of w).places (own_in to m) (place_in seat (base_of seat.before seat.written n + m)) h.place (variable_number seat n c q before m h.below) (stand.each m h.place h.there);
  to = record { other = copy.other; there = ap (slice_get (wide_of w).places) (sym number) ∙ copy.there; alike = record { flag = alike.flag; wrap = alike.wrap; least = alike.least; greatest = alike.greatest } };
}
  where
    to : Seat
    to = called_seat seat n c q before

    h : HasCopy q j m
    h = has_copy q j m is.known.in_order e

    stand : Stand (own_in to) q.places (wide_of w).places
    stand = seat_stand w.text.procs (wide_of w) to is

    copy : IsAmong (wide_of w).places (own_in to (length (variables_in q.places) + j)) (old_copy h.place)
    copy = stand.each (length (variables_in q.places) + j) (old_copy h.place) h.copy

    alike : IsAlike (old_copy h.place) copy.other
    alike = copy.alike

    number : own_in to (length (variables_in q.places) + j) ≡ place_in seat ((base_of seat.before seat.written n + (width_at to - length (inout_from 0 q.places))) + j)
    number =
        let l = wide_length before c q is.known.in_order in
        let k = places_count q is.known.in_order in
        elim (own_cases before q (length (variables_in q.places) + j)) [ inl a ↦ absurd (let f = a.0 in omega arith) | inr a ↦ let f = a.1 in omega arith ]

abbrev copies_from : Seat → ℕ → ℕ → WrittenProcedure → List Callee → ℕ
copies_from seat n c q before = base_of seat.before seat.written n + (width_at (called_seat seat n c q before) - length (inout_from 0 q.places))

-- the callee's frame has its values behind the entry
entered_values : (w : World) (seat : Seat) (n c : ℕ) (q : WrittenProcedure) (before : List Callee) (l m : ℕ) (t : State) (values : State)
    → IsSeat w.text.procs (wide_of w) (called_seat seat n c q before) → length t ≡ length (wide_of w).places
    → (r : Entering w seat (base_of seat.before seat.written n) (length (variables_in q.places)) l t [] values)
    → (s : Copying w seat (base_of seat.before seat.written n) (copies_from seat n c q before) m (inout_from 0 q.places) r.state)
    → HasValues (own_in (called_seat seat n c q before)) q.places (wide_of w).places (with_copies q.places values) s.state
entered_values w seat n c q before l m t values is size r s = record {
  size =
      let a = r.size in
      let b = length-append values (map (value_at values) inouts) in
      let d : length (map (value_at values) inouts) ≡ length inouts = length-map inouts (value_at values) in
      let p = count in
      let z : length {A = ℤ} [] ≡ 0 = refl in
      omega arith;
  wide_size = s.same.size ∙ r.same.size ∙ size;
  each = at_place;
}
  where
    inouts : List ℕ
    inouts = inout_from 0 q.places

    to : Seat
    to = called_seat seat n c q before

    base : ℕ
    base = base_of seat.before seat.written n

    vs : List Place
    vs = variables_in q.places

    count : length q.places ≡ length vs + length inouts
    count = places_count q is.known.in_order

    wide : width_at to ≡ length q.places + sum_by (brings before) q.lines
    wide = wide_length before c q is.known.in_order

    length_values : length values ≡ length vs
    length_values = let a = r.size in omega arith

    -- a variable keeps its value while the copies get theirs
    variable_has : (k : ℕ) → k < length vs → value_at s.state (place_in seat (base + k)) ≡ value_at values k
    variable_has k h =
        let p = count in
        let d = wide in
        s.same.same (place_in seat (base + k)) (inl (omega arith)) ∙ r.given k k (place_in seat (base + k)) h (omega arith) refl

    copy_has : (k : ℕ) → k < length q.places → length vs ≤ k → value_at s.state (own_in to k) ≡ value_at (with_copies q.places values) k
    copy_has k h a =
        let p = count in
        let d = wide in
        let b = length_values in
        let j = k - length vs in
        let i = there inouts j (omega arith) in
        let m = i.0 in
        let low = (has_copy q j m is.known.in_order i.1).below in
        let number : own_in to k ≡ place_in seat (copies_from seat n c q before + j) =
        elim (own_cases before q k) [ inl x ↦ absurd (let f = x.0 in omega arith) | inr x ↦ let f = x.1 in omega arith ] in
        let at : length values + j ≡ k = omega arith in
        s.given j m (own_in to k) i.1 number ∙ r.given m m (place_in seat (base + m)) low (omega arith) refl
        ∙ sym (ap (value_at (with_copies q.places values)) (sym at) ∙ get_or-append-add values (map (value_at values) inouts) j (pos 0)
        ∙ get_or_from_slice_get (map (value_at values) inouts) j (value_at values m) (pos 0) (slice_get-map (value_at values) inouts j ∙ ap (option_map (value_at values)) i.1))

    at_place : (k : ℕ) → k < length q.places → value_at s.state (own_in to k) ≡ value_at (with_copies q.places values) k
    at_place k h = elim (cases_lt k (length vs)) [
      | inl a ↦
          let b = length_values in
          ap (value_at s.state) (variable_number seat n c q before k a) ∙ variable_has k a
          ∙ sym (get_or_append_left values (map (value_at values) inouts) (pos 0) k (omega arith))
      | inr a ↦ copy_has k h a
    ]

-- the turn of a call
pub call_step : (w : World) (last : Frame) (below : List Frame) (t : State) (seat : Seat) (c : ℕ) (arguments : List Passed) → Here w last below t seat
    → slice_get seat.written.lines last.line ≡ Some (call c arguments) → (it : CallKnown w.text.procs seat last.line c arguments)
    → Simulated w last.procedure (start_in seat last.line) t
    (called_with (stack_of last below) c it.callee (variables_given last.line seat.written.places last.values (variables_in it.callee.places) arguments []))
call_step w last below t seat c arguments here at it = by_entry (variables_given n seat.written.places last.values vs arguments [])
    (entered_run w seat n last.values (place_in seat base) (seat.place + (base + width_at to)) here.is outside vs arguments [] start base t placed.sits.enters stand.among stand.ranges
    (omega arith) (let h = high in omega arith) here.values)
  where
    n : ℕ
    n = last.line

    q : WrittenProcedure
    q = it.callee

    to : Seat
    to = called_seat seat n c q it.before

    placed : CallHere w seat n c arguments it
    placed = call_here w seat n c arguments here.is at it

    base : ℕ
    base = base_of seat.before seat.written n

    start : ℕ
    start = start_of seat.before seat.written.lines n

    vs : List Place
    vs = variables_in q.places

    inouts : List ℕ
    inouts = inout_from 0 q.places

    stand : VariablesStand w seat base vs
    stand = variables_stand w seat n c q it.before placed.is

    count : length q.places ≡ length vs + length inouts
    count = places_count q it.known.in_order

    wide : width_at to ≡ length q.places + sum_by (brings it.before) q.lines
    wide = wide_length it.before c q it.known.in_order

    high : length vs + length inouts ≤ width_at to
    high = let p = count in let d = wide in omega arith

    whole : base + width_at to ≤ width_at seat
    whole =
        let b = placed.block.high in
        let l = wide_length seat.before seat.number seat.written here.is.known.in_order in
        let p = places_count seat.written here.is.known.in_order in
        omega arith

    outside : (k : ℕ) → k < length seat.written.places → (own_in seat k < place_in seat base) ⊎ (seat.place + (base + width_at to) ≤ own_in seat k)
    outside k h = elim (own_outside seat.before seat.written n (width_at to) k placed.block) [ inl a ↦ inl (omega arith) | inr a ↦ inr (omega arith) ]

    by_entry : (entry : Entry) → EntryRuns w seat base (length vs) (line_in seat start) n t [] entry
        → Simulated w last.procedure (line_in seat start) t (called_with (stack_of last below) c q entry)
    by_entry (fails h) r =
        let many = high in
        let all = whole in
        let same = same_wider _ _ (place_in seat base) (seat.place + (base + width_at to)) t r.state (omega arith) (omega arith) r.same in
        let from : slice_get (wide_of w).origins (line_in seat start + r.number) ≡ Some (origin_at last.procedure n) =
        ap (slice_get (wide_of w).origins) (let f : line_in seat start + r.number ≡ line_in seat (start + r.number) = omega arith in f)
        ∙ here.is.origins (start + r.number) (origin_at seat.number n) (placed.sits.entry_origin r.number (let b = r.below in omega arith))
        ∙ ap (λ m. Some (origin_at m n)) here.number in
        record {
          count = r.number;
          line = line_in seat start + r.number;
          state = r.state;
          other = halt_at (line_in seat start + r.number) h;
          steps = r.steps;
          halts = r.halts;
          alike = halts_at (wide_of w).origins last.procedure n (line_in seat start + r.number) h r.at from;
          first = chain_first w r.state last below seat (values_kept w t r.state seat seat.written.places last.values (place_in seat base) (seat.place + (base + width_at to)) same outside here.values)
              (chain_kept w t r.state below seat (same_wider _ _ seat.place (seat.place + width_at seat) t r.state (omega arith) (omega arith) same) here.chain);
        }
    by_entry (enters values) r =
        let many = high in
        let all = whole in
        let size = here.in_range.size in
        let between = steps_in_range (procedure_in (wide_of w)) (length vs) (line_in seat start) (line_in seat start + length vs) t r.state w.known.checked r.steps here.in_range in
        let s = copied_run w seat q.places base here.is inouts (start + length vs) (copies_from seat n c q it.before) r.state placed.sits.copies
        (λ j m e. copy_stands w seat n c q it.before j m placed.is e)
        (λ j m e. let b = (has_copy q j m it.known.in_order e).below in omega arith) between in
        let u = s.state in
        let line : line_in seat (start + length vs) ≡ line_in seat start + length vs = omega arith in
        let rest : Steps (procedure_in (wide_of w)) (length inouts) (line_in seat start + length vs) r.state ((line_in seat start + length vs) + length inouts) u =
        subst (λ m. Steps (procedure_in (wide_of w)) (length inouts) m r.state (m + length inouts) u) line s.steps in
        let steps = then_steps (procedure_in (wide_of w)) (length vs) (length inouts) (line_in seat start) (line_in seat start + length vs) ((line_in seat start + length vs) + length inouts)
        t r.state u r.steps rest in
        let same : SameOutside (place_in seat base) (seat.place + (base + width_at to)) t u =
        same_then (place_in seat base) (seat.place + (base + width_at to)) t r.state u
        (same_wider _ _ (place_in seat base) (seat.place + (base + width_at to)) t r.state (omega arith) (omega arith) r.same)
        (same_wider _ _ (place_in seat base) (seat.place + (base + width_at to)) r.state u (omega arith) (omega arith) s.same) in
        let lines = length_lines it.before q it.known.calls in
        let some = it.known.checked.some_lines in
        let first = there q.lines 0 (begins_before it.before q.lines 0 (omega arith)) in
        let early = slice_get_within seat.before c it.fits.callee it.fits.there in
        let number = here.number in
        let counted = here.is.known.size in (
          record {
            count = length vs + length inouts;
            line = (line_in seat start + length vs) + length inouts;
            state = u;
            steps = steps;
            stands = record {
              seat = to;
              is = placed.is;
              number = refl;
              values = entered_values w seat n c q it.before (line_in seat start) (line_in seat (start + length vs)) t values placed.is size r s;
              line = first.0;
              at = first.1;
              stands = omega arith;
              in_range = steps_in_range (procedure_in (wide_of w)) (length vs + length inouts) (line_in seat start) ((line_in seat start + length vs) + length inouts) t u w.known.checked steps here.in_range;
              chain = (
                seat,
                record {
                  is = here.is;
                  number = here.number;
                  values = values_kept w t u seat seat.written.places last.values (place_in seat base) (seat.place + (base + width_at to)) same outside here.values;
                  callee = c;
                  arguments = arguments;
                  line = at;
                  it = it;
                  seated = refl;
                },
                chain_kept w t u below seat (same_wider _ _ seat.place (seat.place + width_at seat) t u (omega arith) (omega arith) same) here.chain,
              );
            };
          },
          inr (omega arith),
        )
