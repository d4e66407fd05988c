-- The end of a frame that was pushed is simulated by the lines of its call's exit, behind which its caller stands behind the call.
use Rattle.std.proofs.Common.{◌≡◌, sym, ap, ◌∙◌, subst, ℕ, ◌+◌, ◌<◌, ◌≤◌, inl, inr, Option, Some, None, List, ◌∷◌, length, slice_get, arith}
use Rattle.il_core.specs.Evaluation.{State, value_at}
use Rattle.il_core.specs.Expression.{Expression}
use Rattle.il_core.specs.Procedure.{Instruction, end_procedure}
use Rattle.il_core.specs.Run.{Steps, IsInRange}
use Rattle.il_core.specs.declared.line.Halt.{Halt}
use Rattle.il_core.specs.declared.line.Halt.TheVariants.{End}
use Rattle.il_core.specs.declared.line.Place.{Place}
use Rattle.il_called.specs.Called.{Passed, WrittenLine, own, call, WrittenProcedure}
use Rattle.il_called.specs.Expansion.{procedure_in, moved, variables_in, entry_width, handed_back, start_of, base_of, own_place, origin_at}
use Rattle.il_inline.specs.Stack.{Frame, Turn, halts, Handed, all_back, returned_to, returned_from, ended}
use Rattle.il_inline.proofs.Known.{made}
use Rattle.il_inline.proofs.Sizes.{length_lines}
use Rattle.il_inline.proofs.Texts.{there}
use Rattle.il_runs.specs.Moved.{HasValues, halt_at}
use Rattle.il_runs.proofs.Blocks.{own_sits}
use Rattle.il_runs.proofs.Call.{CallHere, call_here, VariablesStand, variables_stand, variable_number}
use Rattle.il_runs.proofs.Chain.{World, wide_of, width_at, Above, Chain, chain_kept, chain_first, Arrives}
use Rattle.il_runs.proofs.Exit.{LeftAt, Leaving, exit_run}
use Rattle.il_runs.proofs.Fit.{begins_before}
use Rattle.il_runs.proofs.Inouts.{places_count}
use Rattle.il_runs.proofs.Numbers.{own_outside, wide_length}
use Rattle.il_runs.proofs.Own.{Here, OwnLine, own_line, halts_at}
use Rattle.il_runs.proofs.Asserted.{LeavesAlike}
use Rattle.il_runs.proofs.Seat.{Seat, expansion_at, place_in, line_in, own_in, start_in, IsSeat, called_seat, CallKnown}
use Rattle.il_runs.proofs.Walk.{steps_in_range}

-- what the end of a frame is, where its caller and its procedure are there
ended_is : (procs : List WrittenProcedure) (last caller : Frame) (below : List Frame) (p q : WrittenProcedure) (c : ℕ) (arguments : List Passed)
    → slice_get procs caller.procedure ≡ Some p → slice_get p.lines caller.line ≡ Some (call c arguments) → slice_get procs last.procedure ≡ Some q
    → ended procs last (caller ∷ below) ≡ returned_to last caller below (all_back caller.line p.places last.values 0 (variables_in q.places) arguments caller.values)
ended_is procs last caller below p q c arguments e f g =
    ap (λ (o : Option WrittenProcedure). elim o [
      | None ↦ lost
      | Some x ↦ elim (slice_get x.lines caller.line) [ None ↦ lost | Some line ↦ returned_from procs last caller below x line ]
    ]) e
    ∙ ap (λ (o : Option WrittenLine). elim o [ None ↦ lost | Some line ↦ returned_from procs last caller below p line ]) f
    ∙ ap (λ (o : Option WrittenProcedure). elim o [
      | None ↦ lost
      | Some x ↦ returned_to last caller below (all_back caller.line p.places last.values 0 (variables_in x.places) arguments caller.values)
    ]) g
  where
    lost : Turn
    lost = halts last.procedure End (record { last = last; below = caller ∷ below })

-- behind the callee's last line, in its caller
leaves_at : (w : World) (last caller : Frame) (below : List Frame) (t : State) (up : Seat) (c : ℕ) (arguments : List Passed) (e : Expression)
    → IsSeat w.text.procs (wide_of w) up → up.number ≡ caller.procedure → HasValues (own_in up) up.written.places (wide_of w).places caller.values t
    → slice_get up.written.lines caller.line ≡ Some (call c arguments) → (it : CallKnown w.text.procs up caller.line c arguments) → Chain w t below up
    → IsInRange (wide_of w).places t → c ≡ last.procedure
    → HasValues (own_in (called_seat up caller.line c it.callee it.before)) it.callee.places (wide_of w).places last.values t
    → slice_get it.callee.lines last.line ≡ Some (own (end_procedure e))
    → OwnLine w (called_seat up caller.line c it.callee it.before) last.line (end_procedure e)
    → Arrives w (start_in (called_seat up caller.line c it.callee it.before) last.line + 1) t
    (returned_to last caller below (all_back caller.line up.written.places last.values 0 (variables_in it.callee.places) arguments caller.values))
leaves_at w last caller below t up c arguments e is number values at it chain in_range calls own_values stands line =
    by_left (all_back n up.written.places last.values 0 vs arguments caller.values) run
  where
    n : ℕ
    n = caller.line

    q : WrittenProcedure
    q = it.callee

    to : Seat
    to = called_seat up n c q it.before

    here : CallHere w up n c arguments it
    here = call_here w up n c arguments is at it

    base : ℕ
    base = base_of up.before up.written n

    vs : List Place
    vs = variables_in q.places

    width : ℕ
    width = entry_width (made it.before c q)

    behind : ℕ
    behind = start_of up.before up.written.lines n + (width + length (expansion_at to).lines)

    lines : List Instruction
    lines = handed_back (own_place up.before up.written) base vs arguments

    stand : VariablesStand w up base vs
    stand = variables_stand w up n c q it.before here.is

    -- the callee's last line is asserted, and a line stands behind it
    last_line : start_of it.before q.lines last.line + 1 ≡ length (expansion_at to).lines
    last_line = line.fits.0

    inside : behind < length (expansion_at up).lines
    inside =
        let body = here.sits.body (start_of it.before q.lines last.line) (moved (own_place it.before q) (start_of it.before q.lines) (end_procedure e))
        (own_sits it.before q last.line (end_procedure e) it.known.calls stands) in
        let f = is.known.checked.fits ((start_of up.before up.written.lines n + width) + start_of it.before q.lines last.line) _ body in
        let after = f.0 in
        let l = last_line in
        omega arith

    high : place_in up (base + length vs) ≤ up.place + (base + width_at to)
    high =
        let p = places_count q it.known.in_order in
        let d = wide_length it.before c q it.known.in_order in
        omega arith

    run : Leaving w up n (length lines) behind t (all_back n up.written.places last.values 0 vs arguments caller.values)
    run = exit_run w up n last.values (place_in up base) (up.place + (base + width_at to)) is
        (λ k h. elim (own_outside up.before up.written n (width_at to) k here.block) [ inl a ↦ inl (omega arith) | inr a ↦ inr (omega arith) ])
        vs arguments base 0 stand.among stand.ranges (omega arith) high caller.values behind t here.sits.leaves (record {
          callee = λ j h.
              let p = places_count q it.known.in_order in
              let zeros : j ≡ 0 + j = omega arith in
              ap (value_at t) (sym (variable_number up n c q it.before j h)) ∙ own_values.each j (omega arith) ∙ ap (value_at last.values) zeros;
          caller = values;
          in_range = in_range;
          inside = inside;
        })

    begins : start_in to last.line + 1 ≡ line_in up behind
    begins = let l = last_line in omega arith

    by_left : (handed : Handed) → Leaving w up n (length lines) behind t handed → Arrives w (start_in to last.line + 1) t (returned_to last caller below handed)
    by_left handed r = by_fault handed.fault r.ends
      where
        kept : Chain w r.state below up
        kept = chain_kept w t r.state below up r.same chain

        steps : Steps (procedure_in (wide_of w)) r.number (start_in to last.line + 1) t (line_in up behind + r.number) r.state
        steps = subst (λ m. Steps (procedure_in (wide_of w)) r.number m t (line_in up behind + r.number) r.state) (sym begins) r.steps

        by_fault : (o : Option Halt) → LeftAt w up n (length lines) behind r.number r.state o
            → Arrives w (start_in to last.line + 1) t (returned_to last caller below (record { values = handed.values; fault = o }))
        by_fault None ends =
            let next = here.sits.next in
            let counted = ends.0 in
            let more = ends.1 in
            let l = length_lines up.before up.written is.known.calls in
            let follows = there up.written.lines (n + 1) (begins_before up.before up.written.lines (n + 1) (omega arith)) in
            record {
              count = r.number;
              line = line_in up behind + r.number;
              state = r.state;
              steps = steps;
              stands = record {
                seat = up;
                is = is;
                number = number;
                values = r.values;
                line = follows.0;
                at = follows.1;
                stands = omega arith;
                in_range = steps_in_range (procedure_in (wide_of w)) r.number (line_in up behind) (line_in up behind + r.number) t r.state w.known.checked r.steps in_range;
                chain = kept;
              };
            }
        by_fault (Some h) ends =
            let from : slice_get (wide_of w).origins (line_in up behind + r.number) ≡ Some (origin_at caller.procedure n) =
            ap (slice_get (wide_of w).origins) (let f : line_in up behind + r.number ≡ line_in up (behind + r.number) = omega arith in f)
            ∙ is.origins (behind + r.number) (origin_at up.number n) (here.sits.exit_origin r.number ends.0) ∙ ap (λ m. Some (origin_at m n)) number in
            record {
              count = r.number;
              line = line_in up behind + r.number;
              state = r.state;
              other = halt_at (line_in up behind + r.number) h;
              steps = steps;
              halts = ends.2;
              alike = halts_at (wide_of w).origins caller.procedure n (line_in up behind + r.number) h ends.1 from;
              first = chain_first w r.state (record caller { values = handed.values }) below up r.values kept;
            }

pub leaves : (w : World) (last caller : Frame) (below : List Frame) (t : State) (seat : Seat) (e : Expression) → Here w last (caller ∷ below) t seat
    → slice_get seat.written.lines last.line ≡ Some (own (end_procedure e)) → LeavesAlike w last caller below t seat
leaves w last caller below t seat e here at = subst (λ (x : Turn). Arrives w (start_in seat last.line + 1) t x) (sym is_turn)
    (subst Moves (sym above.seated) moves here.number here.values at (own_line w seat last.line (end_procedure e) here.is at))
  where
    up : Seat
    up = here.chain.0

    above : Above w t caller up seat
    above = here.chain.1

    it : CallKnown w.text.procs up caller.line above.callee above.arguments
    it = above.it

    handed : Handed
    handed = all_back caller.line up.written.places last.values 0 (variables_in it.callee.places) above.arguments caller.values

    Moves : Seat → Type 0
    Moves s = s.number ≡ last.procedure → HasValues (own_in s) s.written.places (wide_of w).places last.values t → slice_get s.written.lines last.line ≡ Some (own (end_procedure e))
        → OwnLine w s last.line (end_procedure e) → Arrives w (start_in s last.line + 1) t (returned_to last caller below handed)

    moves : Moves (called_seat up caller.line above.callee it.callee it.before)
    moves number values stands line = leaves_at w last caller below t up above.callee above.arguments e above.is above.number above.values above.line it here.chain.2 here.in_range
        number values stands line

    numbered : above.callee ≡ last.procedure
    numbered = sym (ap (λ (s : Seat). s.number) above.seated) ∙ here.number

    is_turn : ended w.text.procs last (caller ∷ below) ≡ returned_to last caller below handed
    is_turn = ended_is w.text.procs last caller below up.written it.callee above.callee above.arguments
        (ap (slice_get w.text.procs) (sym above.number) ∙ above.is.known.written) above.line (ap (slice_get w.text.procs) (sym numbered) ∙ it.known.written)
