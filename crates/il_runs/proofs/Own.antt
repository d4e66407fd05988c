-- A line of the last frame's procedure, that is no call, is simulated by one step.
use Rattle.std.proofs.Common.{◌≡◌, refl, sym, ap, ◌∙◌, subst, ℕ, ◌+◌, ◌<◌, ◌≤◌, inl, Some, List, length, slice_get, arith}
use Rattle.il_core.specs.Checked.{FitsAt}
use Rattle.il_core.specs.Evaluation.{State}
use Rattle.il_core.specs.LineGraph.{IsIn, heads_of}
use Rattle.il_core.specs.Machine.{Step, goes, stays, stepped, step}
use Rattle.il_core.specs.Procedure.{Instruction, pre, assign, if_true, otherwise, end_if, loop, end_loop, exit, exit_when, label, goto, skip, assert, return, end_procedure}
use Rattle.il_core.specs.Run.{IsInRange}
use Rattle.il_core.specs.declared.line.Halt.{Halt}
use Rattle.il_core.specs.declared.line.Halt.TheVariants.{End, Outside, FailedAssert, FailedPost, DivZero, Range}
use Rattle.il_core.specs.declared.line.Next.{Next}
use Rattle.il_core.specs.declared.line.Next.TheVariants.{At, Halted}
use Rattle.il_called.specs.Called.{own}
use Rattle.il_called.specs.Expansion.{Expansion, procedure_in, moved, start_of, own_place, origin_at}
use Rattle.il_called.specs.declared.called.Origin.{Origin}
use Rattle.il_inline.specs.Stack.{Frame, Stack, moved_to, by_step}
use Rattle.il_inline.specs.Within.{IsWithin}
use Rattle.il_inline.proofs.Shape.{start_next}
use Rattle.il_inline.proofs.Sizes.{length_lines}
use Rattle.il_inline.proofs.Texts.{there}
use Rattle.il_runs.specs.Moved.{HasValues, EndsAlike, halt_at, own_next}
use Rattle.il_runs.specs.Runs.{HaltsAlike}
use Rattle.il_runs.proofs.Blocks.{own_sits, own_origin}
use Rattle.il_runs.proofs.Chain.{World, wide_of, Chain, width_at, chain_kept, chain_first, Simulated}
use Rattle.il_runs.proofs.Effects.{IsAt, AssignsIn, Effect, effect}
use Rattle.il_runs.proofs.Fit.{moved_within, limit_of, heads_inside, begins_before}
use Rattle.il_runs.proofs.Numbers.{own_back, own_below}
use Rattle.il_runs.proofs.Renumber.{placed, moved_then}
use Rattle.il_runs.proofs.Seat.{Seat, expansion_at, place_in, line_in, own_in, start_in, IsSeat, seat_stand}
use Rattle.il_runs.proofs.Steps.{moved_alike}
use Rattle.il_runs.proofs.Walk.{step_is, no_steps, one_step, step_in_range}

-- a halt on a line is alike where the line comes from it
pub halts_at : (origins : List Origin) (procedure n pc : ℕ) (h : Halt) → IsAt n h → slice_get origins pc ≡ Some (origin_at procedure n) → HaltsAlike origins procedure h (halt_at pc h)
halts_at origins procedure n pc End at from = refl
halts_at origins procedure n pc Outside at from = refl
halts_at origins procedure n pc FailedPost at from = refl
halts_at origins procedure n pc (FailedAssert m) at from = (pc, refl, subst (λ k. slice_get origins pc ≡ Some (origin_at procedure k)) (sym at) from)
halts_at origins procedure n pc (DivZero m) at from = (pc, refl, subst (λ k. slice_get origins pc ≡ Some (origin_at procedure k)) (sym at) from)
halts_at origins procedure n pc (Range m) at from = (pc, refl, subst (λ k. slice_get origins pc ≡ Some (origin_at procedure k)) (sym at) from)

-- an instruction that is moved assigns a place that it names
moved_assigns : (f a : ℕ → ℕ) (lo hi n m : ℕ) → ((k : ℕ) → k < n → (lo ≤ f k) × (f k < hi)) → (i : Instruction) → IsWithin n m i → AssignsIn lo hi (moved f a i)
moved_assigns f a lo hi n m h (pre e) w = tt
moved_assigns f a lo hi n m h (assign p e) w = h p w.0
moved_assigns f a lo hi n m h (if_true e q) w = tt
moved_assigns f a lo hi n m h (otherwise q) w = tt
moved_assigns f a lo hi n m h end_if w = tt
moved_assigns f a lo hi n m h loop w = tt
moved_assigns f a lo hi n m h (end_loop q) w = tt
moved_assigns f a lo hi n m h (exit q) w = tt
moved_assigns f a lo hi n m h (exit_when e q) w = tt
moved_assigns f a lo hi n m h label w = tt
moved_assigns f a lo hi n m h (goto q) w = tt
moved_assigns f a lo hi n m h skip w = tt
moved_assigns f a lo hi n m h (assert e) w = tt
moved_assigns f a lo hi n m h (return q) w = tt
moved_assigns f a lo hi n m h (end_procedure e) w = tt

-- what is known of an own line where it stands
pub record OwnLine (w : World) (seat : Seat) (n : ℕ) (i : Instruction) : Type 0 where
  pub stands : slice_get (wide_of w).lines (start_in seat n) ≡ Some (placed seat.called (own_in seat) (start_in seat) i)
  pub from : slice_get (wide_of w).origins (start_in seat n) ≡ Some (origin_at seat.number n)
  pub within : IsWithin (length seat.written.places) (limit_of i) i
  pub follows : start_in seat (n + 1) ≡ start_in seat n + 1
  pub fits : FitsAt (expansion_at seat).places (length (expansion_at seat).lines) (start_of seat.before seat.written.lines n) (moved (own_place seat.before seat.written) (start_of seat.before seat.written.lines) i)
  pub inside : (q : ℕ) → IsIn (heads_of n i) q → q < length seat.written.lines

pub own_line : (w : World) (seat : Seat) (n : ℕ) (i : Instruction) → IsSeat w.text.procs (wide_of w) seat → slice_get seat.written.lines n ≡ Some (own i) → OwnLine w seat n i
own_line w seat n i is at = record {
  stands = is.lines _ _ sits
      ∙ ap Some (moved_then seat.called (place_in seat) (own_place seat.before seat.written) (own_in seat) (line_in seat) (start_of seat.before seat.written.lines) (start_in seat) (λ k. refl) (λ k. refl) i);
  from = is.origins _ _ (own_origin seat.before seat.number seat.written n i is.known.calls is.earlier at);
  within = moved_within (expansion_at seat).places (length (expansion_at seat).lines) (start_of seat.before seat.written.lines n) (length seat.written.places)
      (own_place seat.before seat.written) (start_of seat.before seat.written.lines) (λ k h. own_back seat.before seat.number seat.written k is.known.in_order h) i fitting;
  follows = let f = follow in omega arith;
  fits = fitting;
  inside = λ q along.
      let l = length_lines seat.before seat.written is.known.calls in
      let h = heads_inside (expansion_at seat).places (length (expansion_at seat).lines) n q (own_place seat.before seat.written) (start_of seat.before seat.written.lines) is.known.checked.some_lines
      follow i fitting along in
      begins_before seat.before seat.written.lines q (omega arith);
}
  where
    sits : slice_get (expansion_at seat).lines (start_of seat.before seat.written.lines n) ≡ Some (moved (own_place seat.before seat.written) (start_of seat.before seat.written.lines) i)
    sits = own_sits seat.before seat.written n i is.known.calls at

    fitting : FitsAt (expansion_at seat).places (length (expansion_at seat).lines) (start_of seat.before seat.written.lines n) (moved (own_place seat.before seat.written) (start_of seat.before seat.written.lines) i)
    fitting = is.known.checked.fits (start_of seat.before seat.written.lines n) (moved (own_place seat.before seat.written) (start_of seat.before seat.written.lines) i) sits

    follow : start_of seat.before seat.written.lines (n + 1) ≡ start_of seat.before seat.written.lines n + 1
    follow = start_next seat.before seat.written.lines n (own i) at

-- where the last frame stands, on a line of its own
pub record Here (w : World) (last : Frame) (below : List Frame) (t : State) (seat : Seat) : Type 0 where
  pub is : IsSeat w.text.procs (wide_of w) seat
  pub number : seat.number ≡ last.procedure
  pub values : HasValues (own_in seat) seat.written.places (wide_of w).places last.values t
  pub in_range : IsInRange (wide_of w).places t
  pub chain : Chain w t below seat

abbrev pub stack_of : Frame → List Frame → Stack
stack_of last below = record { last = last; below = below }

-- a line that steps as one of the caller's own does
pub own_step : (w : World) (last : Frame) (below : List Frame) (t : State) (seat : Seat) (i : Instruction) → Here w last below t seat → OwnLine w seat last.line i
    → stepped (wide_of w).places (start_in seat last.line) t (placed seat.called (own_in seat) (start_in seat) i)
    ≡ stepped (wide_of w).places (start_in seat last.line) t (moved (own_in seat) (start_in seat) i)
    → Simulated w last.procedure (start_in seat last.line) t (by_step (stack_of last below) (stepped seat.written.places last.line last.values i))
own_step w last below t seat i here line same = by_next a.next refl
  where
    wide : Expansion
    wide = wide_of w

    pc : ℕ
    pc = start_in seat last.line

    a : Step
    a = stepped seat.written.places last.line last.values i

    b : Step
    b = stepped wide.places pc t (moved (own_in seat) (start_in seat) i)

    alike : EndsAlike (own_next (start_in seat) pc) (own_in seat) seat.written.places wide.places a b
    alike = moved_alike (own_in seat) (start_in seat) seat.written.places wide.places last.line last.values t i
        (record { stand = seat_stand w.text.procs wide seat here.is; values = here.values; targets = limit_of i; within = line.within; follows = line.follows })

    steps : step (procedure_in wide) pc t ≡ b
    steps = step_is wide pc t (placed seat.called (own_in seat) (start_in seat) i) line.stands ∙ same

    does : Effect last.line last.values i a
    does = effect seat.written.places last.line last.values i

    made : Effect pc t (moved (own_in seat) (start_in seat) i) b
    made = effect wide.places pc t (moved (own_in seat) (start_in seat) i)

    assigns : AssignsIn seat.place (seat.place + width_at seat) (moved (own_in seat) (start_in seat) i)
    assigns = moved_assigns (own_in seat) (start_in seat) seat.place (seat.place + width_at seat) (length seat.written.places) (limit_of i)
        (λ k h. let o = own_below seat.before seat.number seat.written k here.is.known.in_order h in (omega arith, omega arith)) i line.within

    by_next : (x : Next) → a.next ≡ x → Simulated w last.procedure pc t (moved_to (stack_of last below) x a.state)
    by_next (At q) e =
        let next : b.next ≡ At (start_in seat q) = alike.ends ∙ ap (own_next (start_in seat) pc) e in
        let goes_on : step (procedure_in wide) pc t ≡ goes (start_in seat q) b.state = steps ∙ ap (λ (x : Next). record { next = x; state = b.state }) next in
        let at = there seat.written.lines q (line.inside q (does.goes q e)) in (
          record {
            count = 1;
            line = start_in seat q;
            state = b.state;
            steps = one_step (procedure_in wide) pc (start_in seat q) t b.state goes_on;
            stands = record {
              seat = seat;
              is = here.is;
              number = here.number;
              values = alike.values;
              line = at.0;
              at = at.1;
              stands = refl;
              in_range = step_in_range (procedure_in wide) pc (start_in seat q) t b.state w.known.checked goes_on here.in_range;
              chain = chain_kept w t b.state below seat (made.spares seat.place (seat.place + width_at seat) assigns) here.chain;
            };
          },
          inl (omega arith),
        )
    by_next (Halted h) e =
        let next : b.next ≡ Halted (halt_at pc h) = alike.ends ∙ ap (own_next (start_in seat) pc) e in
        let left : b.state ≡ t = (made.halted (halt_at pc h) next).0 in
        let stops : step (procedure_in wide) pc t ≡ stays (halt_at pc h) t =
        steps ∙ ap (λ (x : Next). record { next = x; state = b.state }) next ∙ ap (λ (x : State). stays (halt_at pc h) x) left in
        record {
          count = 0;
          line = pc;
          state = t;
          other = halt_at pc h;
          steps = no_steps (procedure_in wide) pc pc t refl;
          halts = stops;
          alike = halts_at wide.origins last.procedure last.line pc h (does.halted h e).1 (line.from ∙ ap (λ n. Some (origin_at n last.line)) here.number);
          first = chain_first w t last below seat here.values here.chain;
        }
