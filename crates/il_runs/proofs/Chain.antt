-- The stack of frames stands at a line of the expansion: the last frame's procedure is seated there, and below it each frame at the call of the next.
use Rattle.std.proofs.Common.{◌≡◌, sym, ap, ◌∙◌, subst, ℕ, ◌+◌, ◌<◌, ◌≤◌, inl, inr, List, [], ◌∷◌, length, slice_get, Some, arith}
use Rattle.std.specs.Prelude.{◌⊎◌}
use Rattle.il_core.specs.Evaluation.{State}
use Rattle.il_core.specs.Machine.{step, stays}
use Rattle.il_core.specs.Run.{Steps, IsInRange}
use Rattle.il_core.specs.declared.line.Halt.{Halt}
use Rattle.il_core.specs.declared.line.Place.{Place}
use Rattle.il_called.specs.Called.{Passed, WrittenLine, call, WrittenProcedure, WrittenText}
use Rattle.il_called.specs.CalledText.{IsCalledText}
use Rattle.il_called.specs.Expansion.{Callee, Expansion, procedure_in, base_of, expansion_of}
use Rattle.il_inline.specs.Stack.{Frame, Stack, Turn, runs, halts}
use Rattle.il_inline.proofs.Known.{Known}
use Rattle.il_runs.specs.Moved.{HasValues}
use Rattle.il_runs.specs.Runs.{first_frame, HaltsAlike}
use Rattle.il_runs.proofs.Effects.{SameOutside, same_wider}
use Rattle.il_runs.proofs.Numbers.{BlockFits, own_outside, block_fits, variables_within, wide_length}
use Rattle.il_runs.proofs.Seat.{Seat, expansion_at, own_in, start_in, IsSeat, main_seat, called_seat, CallKnown}
use Rattle.il_runs.proofs.Walk.{then_steps}

-- a procedure of a checked text, whose expansion runs
pub record World : Type 0 where
  pub text : WrittenText
  pub checked : IsCalledText text
  pub number : ℕ
  pub written : WrittenProcedure
  pub before : List Callee
  pub known : Known text.procs number written before

abbrev pub wide_of : World → Expansion
wide_of w = expansion_of w.before w.number w.written

abbrev pub main_of : World → Seat
main_of w = main_seat w.number w.written w.before

-- a frame stands at the call of the procedure that sits here, and has its values
pub record Above (w : World) (t : State) (caller : Frame) (up seat : Seat) : Type 0 where
  pub is : IsSeat w.text.procs (wide_of w) up
  pub number : up.number ≡ caller.procedure
  pub values : HasValues (own_in up) up.written.places (wide_of w).places caller.values t
  pub callee : ℕ
  pub arguments : List Passed
  pub line : slice_get up.written.lines caller.line ≡ Some (call callee arguments)
  pub it : CallKnown w.text.procs up caller.line callee arguments
  pub seated : seat ≡ called_seat up caller.line callee it.callee it.before

abbrev pub Chain : World → State → List Frame → Seat → Type 0
Chain w t [] seat = seat ≡ main_of w
Chain w t (caller ∷ below) seat = (up : Seat) × Above w t caller up seat × Chain w t below up

abbrev pub width_at : Seat → ℕ
width_at s = length (expansion_at s).places

pub values_kept : (w : World) (t u : State) (s : Seat) (places : List Place) (values : State) (lo hi : ℕ) → SameOutside lo hi t u
    → ((k : ℕ) → k < length places → (own_in s k < lo) ⊎ (hi ≤ own_in s k)) → HasValues (own_in s) places (wide_of w).places values t → HasValues (own_in s) places (wide_of w).places values u
values_kept w t u s places values lo hi same outside v = record {
  size = v.size;
  wide_size = same.size ∙ v.wide_size;
  each = λ k h. same.same (own_in s k) (outside k h) ∙ v.each k h;
}

-- the place and the width of what is called, among the caller's
pub record Nested (w : World) (t : State) (caller : Frame) (up seat : Seat) : Type 0 where
  pub outside : (k : ℕ) → (own_in up k < seat.place) ⊎ (seat.place + width_at seat ≤ own_in up k)
  pub low : up.place ≤ seat.place
  pub high : seat.place + width_at seat ≤ up.place + width_at up

pub nested : (w : World) (t : State) (caller : Frame) (up seat : Seat) → Above w t caller up seat → Nested w t caller up seat
nested w t caller up seat above = record {
  outside = λ k. let pl = place in let wd = width in elim (own_outside up.before up.written caller.line (length above.it.fits.callee.expanded.places) k block) [ inl a ↦ inl (omega arith) | inr a ↦ inr (omega arith) ];
  low = let pl = place in omega arith;
  high = let pl = place in let wd = width in let h = block.high in let v = variables_within up.written above.is.known.in_order in let l = wide_length up.before up.number up.written above.is.known.in_order in omega arith;
}
  where
    block : BlockFits up.before up.written caller.line (length above.it.fits.callee.expanded.places)
    block = block_fits up.before up.written caller.line above.callee above.arguments above.it.fits above.line

    place : seat.place ≡ up.place + base_of up.before up.written caller.line
    place = ap (λ (s : Seat). s.place) above.seated

    width : width_at seat ≡ length above.it.fits.callee.expanded.places
    width = ap width_at above.seated ∙ ap (λ (y : Callee). length y.expanded.places) (sym above.it.same)

-- a change of the places of the last procedure changes nothing for the frames below
pub chain_kept : (w : World) (t u : State) (below : List Frame) (seat : Seat) → SameOutside seat.place (seat.place + width_at seat) t u → Chain w t below seat → Chain w u below seat
chain_kept w t u [] seat same chain = chain
chain_kept w t u (caller ∷ below) seat same chain =
    let up = chain.0 in
    let above = chain.1 in
    let n = nested w t caller up seat above in (
      up,
      record {
        is = above.is;
        number = above.number;
        values = values_kept w t u up up.written.places caller.values seat.place (seat.place + width_at seat) same (λ k h. n.outside k) above.values;
        callee = above.callee;
        arguments = above.arguments;
        line = above.line;
        it = above.it;
        seated = above.seated;
      },
      chain_kept w t u below up (same_wider seat.place (seat.place + width_at seat) up.place (up.place + width_at up) t u n.low n.high same) chain.2,
    )

-- the first frame has its values
abbrev pub FirstHas : World → Frame → List Frame → State → Type 0
FirstHas w last below t = HasValues (own_in (main_of w)) w.written.places (wide_of w).places (first_frame last below).values t

pub chain_first : (w : World) (t : State) (last : Frame) (below : List Frame) (seat : Seat) → HasValues (own_in seat) seat.written.places (wide_of w).places last.values t
    → Chain w t below seat → FirstHas w last below t
chain_first w t last [] seat v chain = subst (λ (s : Seat). HasValues (own_in s) s.written.places (wide_of w).places last.values t) chain v
chain_first w t last (caller ∷ below) seat v chain = chain_first w t caller below chain.0 chain.1.values chain.2

pub record Stands (w : World) (stack : Stack) (pc : ℕ) (t : State) : Type 0 where
  pub seat : Seat
  pub is : IsSeat w.text.procs (wide_of w) seat
  pub number : seat.number ≡ stack.last.procedure
  pub values : HasValues (own_in seat) seat.written.places (wide_of w).places stack.last.values t
  pub line : WrittenLine
  pub at : slice_get seat.written.lines stack.last.line ≡ Some line
  pub stands : pc ≡ start_in seat stack.last.line
  pub in_range : IsInRange (wide_of w).places t
  pub chain : Chain w t stack.below seat

-- the expanded run comes to where a stack stands
pub record Reaches (w : World) (stack : Stack) (pc : ℕ) (t : State) : Type 0 where
  pub count : ℕ
  pub line : ℕ
  pub state : State
  pub steps : Steps (procedure_in (wide_of w)) count pc t line state
  pub stands : Stands w stack line state

-- it halts alike
pub record Ends (w : World) (procedure : ℕ) (halt : Halt) (stack : Stack) (pc : ℕ) (t : State) : Type 0 where
  pub count : ℕ
  pub line : ℕ
  pub state : State
  pub other : Halt
  pub steps : Steps (procedure_in (wide_of w)) count pc t line state
  pub halts : step (procedure_in (wide_of w)) line state ≡ stays other state
  pub alike : HaltsAlike (wide_of w).origins procedure halt other
  pub first : FirstHas w stack.last stack.below state

abbrev pub Arrives : World → ℕ → State → Turn → Type 0
Arrives w pc t (runs stack) = Reaches w stack pc t
Arrives w pc t (halts procedure halt stack) = Ends w procedure halt stack pc t

-- so that each turn but a call of an earlier procedure takes a step
abbrev pub Simulated : World → ℕ → ℕ → State → Turn → Type 0
Simulated w from pc t (runs stack) = (r : Reaches w stack pc t) × ((1 ≤ r.count) ⊎ (stack.last.procedure < from))
Simulated w from pc t (halts procedure halt stack) = Ends w procedure halt stack pc t

-- after some steps
pub after_steps : (w : World) (m from pc line : ℕ) (t u : State) (turn : Turn) → 1 ≤ m → Steps (procedure_in (wide_of w)) m pc t line u → Arrives w line u turn → Simulated w from pc t turn
after_steps w m from pc line t u (runs stack) some steps r =
    (record { count = m + r.count; line = r.line; state = r.state; steps = then_steps (procedure_in (wide_of w)) m r.count pc line r.line t u r.state steps r.steps; stands = r.stands }, inl (omega arith))
after_steps w m from pc line t u (halts procedure halt stack) some steps r = record {
  count = m + r.count;
  line = r.line;
  state = r.state;
  other = r.other;
  steps = then_steps (procedure_in (wide_of w)) m r.count pc line r.line t u r.state steps r.steps;
  halts = r.halts;
  alike = r.alike;
  first = r.first;
}
