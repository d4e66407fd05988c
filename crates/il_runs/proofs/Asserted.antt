-- A condition of a frame that was pushed is asserted by one step; and each line of the last frame but its end is simulated.
use Rattle.std.proofs.Common.{◌≡◌, refl, sym, ap, ◌∙◌, ℕ, ◌+◌, inl, Bool, true, false, Option, Some, None, List, [], ◌∷◌, length, slice_get, arith}
use Rattle.il_core.specs.Expression.{Expression}
use Rattle.il_core.specs.Evaluation.{State, holds}
use Rattle.il_core.specs.Machine.{goes, stays, decided, stepped, step}
use Rattle.il_core.specs.Procedure.{Instruction, pre, assign, if_true, otherwise, end_if, loop, end_loop, exit, exit_when, label, goto, skip, assert, return, end_procedure}
use Rattle.il_core.specs.declared.line.Halt.TheVariants.{FailedAssert, DivZero}
use Rattle.il_called.specs.Called.{WrittenLine, own}
use Rattle.il_called.specs.Expansion.{Expansion, procedure_in, renumbered, moved, origin_at}
use Rattle.il_inline.specs.Stack.{Frame, Turn, own_turn, pushed_turn, ended, by_step, asserted}
use Rattle.il_inline.specs.Within.{NamesBelow}
use Rattle.il_inline.proofs.Texts.{there}
use Rattle.il_runs.proofs.Chain.{World, wide_of, chain_first, Arrives, Simulated, after_steps}
use Rattle.il_runs.proofs.Own.{OwnLine, own_line, Here, stack_of, own_step}
use Rattle.il_runs.proofs.Renumber.{placed, IsInner, inner_same}
use Rattle.il_runs.proofs.Seat.{Seat, own_in, start_in}
use Rattle.il_runs.proofs.Steps.{value_in}
use Rattle.il_runs.proofs.Walk.{step_is, no_steps, one_step}

pub asserted_step : (w : World) (last : Frame) (below : List Frame) (t : State) (seat : Seat) (e : Expression) (met : Turn) → Here w last below t seat
    → slice_get (wide_of w).lines (start_in seat last.line) ≡ Some (assert (renumbered (own_in seat) e))
    → slice_get (wide_of w).origins (start_in seat last.line) ≡ Some (origin_at seat.number last.line) → NamesBelow (length seat.written.places) e
    → Arrives w (start_in seat last.line + 1) t met → Simulated w last.procedure (start_in seat last.line) t (asserted (stack_of last below) (holds e last.values) met)
asserted_step w last below t seat e met here at from names next = by_truth (holds e last.values) refl
  where
    wide : Expansion
    wide = wide_of w

    pc : ℕ
    pc = start_in seat last.line

    steps : step (procedure_in wide) pc t ≡ decided (holds e last.values) (stays (DivZero pc) t) (goes (pc + 1) t) (stays (FailedAssert pc) t)
    steps = step_is wide pc t (assert (renumbered (own_in seat) e)) at
        ∙ ap (λ o. decided o (stays (DivZero pc) t) (goes (pc + 1) t) (stays (FailedAssert pc) t)) (value_in (own_in seat) seat.written.places wide.places last.values t e here.values names).conditions

    comes : slice_get wide.origins pc ≡ Some (origin_at last.procedure last.line)
    comes = from ∙ ap (λ n. Some (origin_at n last.line)) here.number

    by_truth : (o : Option Bool) → holds e last.values ≡ o → Simulated w last.procedure pc t (asserted (stack_of last below) o met)
    by_truth None h = record {
      count = 0;
      line = pc;
      state = t;
      other = DivZero pc;
      steps = no_steps (procedure_in wide) pc pc t refl;
      halts = steps ∙ ap (λ o. decided o (stays (DivZero pc) t) (goes (pc + 1) t) (stays (FailedAssert pc) t)) h;
      alike = (pc, refl, comes);
      first = chain_first w t last below seat here.values here.chain;
    }
    by_truth (Some true) h =
        let on : step (procedure_in wide) pc t ≡ goes (pc + 1) t = steps ∙ ap (λ o. decided o (stays (DivZero pc) t) (goes (pc + 1) t) (stays (FailedAssert pc) t)) h in
        after_steps w 1 last.procedure pc (pc + 1) t t met (omega arith) (one_step (procedure_in wide) pc (pc + 1) t t on) next
    by_truth (Some false) h = record {
      count = 0;
      line = pc;
      state = t;
      other = FailedAssert pc;
      steps = no_steps (procedure_in wide) pc pc t refl;
      halts = steps ∙ ap (λ o. decided o (stays (DivZero pc) t) (goes (pc + 1) t) (stays (FailedAssert pc) t)) h;
      alike = (pc, refl, comes);
      first = chain_first w t last below seat here.values here.chain;
    }

-- a line that is neither the first nor the last one
inner_step : (w : World) (last : Frame) (below : List Frame) (t : State) (seat : Seat) (i : Instruction) → Here w last below t seat → OwnLine w seat last.line i → IsInner i
    → Simulated w last.procedure (start_in seat last.line) t (by_step (stack_of last below) (stepped seat.written.places last.line last.values i))
inner_step w last below t seat i here line inner = own_step w last below t seat i here line (same seat.called)
  where
    same : (called : Bool) → stepped (wide_of w).places (start_in seat last.line) t (placed called (own_in seat) (start_in seat) i)
        ≡ stepped (wide_of w).places (start_in seat last.line) t (moved (own_in seat) (start_in seat) i)
    same true = inner_same (own_in seat) (start_in seat) (wide_of w).places (start_in seat last.line) t i inner
    same false = refl

-- a line of the first frame
first_step : (w : World) (last : Frame) (t : State) (seat : Seat) (i : Instruction) → Here w last [] t seat → OwnLine w seat last.line i
    → Simulated w last.procedure (start_in seat last.line) t (by_step (stack_of last []) (stepped seat.written.places last.line last.values i))
first_step w last t seat i here line =
    own_step w last [] t seat i here line
    (ap (λ (b : Bool). stepped (wide_of w).places (start_in seat last.line) t (placed b (own_in seat) (start_in seat) i)) (ap (λ (s : Seat). s.called) here.chain))

-- the precondition of a frame that was pushed
pre_step : (w : World) (last caller : Frame) (below : List Frame) (t : State) (seat : Seat) (e : Expression) → Here w last (caller ∷ below) t seat → OwnLine w seat last.line (pre e)
    → Simulated w last.procedure (start_in seat last.line) t (pushed_turn w.text.procs seat.written.places (stack_of last (caller ∷ below)) (pre e))
pre_step w last caller below t seat e here line =
    asserted_step w last (caller ∷ below) t seat e _ here at line.from line.within (record {
      count = 0;
      line = start_in seat last.line + 1;
      state = t;
      steps = no_steps (procedure_in (wide_of w)) (start_in seat last.line + 1) (start_in seat last.line + 1) t refl;
      stands = record {
        seat = seat;
        is = here.is;
        number = here.number;
        values = here.values;
        line = next.0;
        at = next.1;
        stands = sym line.follows;
        in_range = here.in_range;
        chain = here.chain;
      };
    })
  where
    called : seat.called ≡ true
    called = ap (λ (s : Seat). s.called) here.chain.1.seated

    at : slice_get (wide_of w).lines (start_in seat last.line) ≡ Some (assert (renumbered (own_in seat) e))
    at = line.stands ∙ ap (λ (b : Bool). Some (placed b (own_in seat) (start_in seat) (pre e))) called

    next : (x : WrittenLine) × (slice_get seat.written.lines (last.line + 1) ≡ Some x)
    next = there seat.written.lines (last.line + 1) (line.inside (last.line + 1) (inl refl))

-- what the end of a frame that was pushed owes: its parameters are handed back behind its postcondition
abbrev pub LeavesAlike : World → Frame → Frame → List Frame → State → Seat → Type 0
LeavesAlike w last caller below t seat = Arrives w (start_in seat last.line + 1) t (ended w.text.procs last (caller ∷ below))

end_step : (w : World) (last caller : Frame) (below : List Frame) (t : State) (seat : Seat) (e : Expression) → Here w last (caller ∷ below) t seat
    → OwnLine w seat last.line (end_procedure e) → LeavesAlike w last caller below t seat
    → Simulated w last.procedure (start_in seat last.line) t (pushed_turn w.text.procs seat.written.places (stack_of last (caller ∷ below)) (end_procedure e))
end_step w last caller below t seat e here line leaves = asserted_step w last (caller ∷ below) t seat e _ here at line.from line.within leaves
  where
    called : seat.called ≡ true
    called = ap (λ (s : Seat). s.called) here.chain.1.seated

    at : slice_get (wide_of w).lines (start_in seat last.line) ≡ Some (assert (renumbered (own_in seat) e))
    at = line.stands ∙ ap (λ (b : Bool). Some (placed b (own_in seat) (start_in seat) (end_procedure e))) called

abbrev pub IfEnd : World → Frame → Frame → List Frame → State → Seat → Instruction → Type 0
IfEnd w last caller below t seat i = (e : Expression) → i ≡ end_procedure e → LeavesAlike w last caller below t seat

pushed_step : (w : World) (last caller : Frame) (below : List Frame) (t : State) (seat : Seat) (i : Instruction) → Here w last (caller ∷ below) t seat → OwnLine w seat last.line i
    → IfEnd w last caller below t seat i
    → Simulated w last.procedure (start_in seat last.line) t (pushed_turn w.text.procs seat.written.places (stack_of last (caller ∷ below)) i)
pushed_step w last caller below t seat (pre e) here line ends = pre_step w last caller below t seat e here line
pushed_step w last caller below t seat (assign p e) here line ends = inner_step w last (caller ∷ below) t seat (assign p e) here line tt
pushed_step w last caller below t seat (if_true e q) here line ends = inner_step w last (caller ∷ below) t seat (if_true e q) here line tt
pushed_step w last caller below t seat (otherwise q) here line ends = inner_step w last (caller ∷ below) t seat (otherwise q) here line tt
pushed_step w last caller below t seat end_if here line ends = inner_step w last (caller ∷ below) t seat end_if here line tt
pushed_step w last caller below t seat loop here line ends = inner_step w last (caller ∷ below) t seat loop here line tt
pushed_step w last caller below t seat (end_loop q) here line ends = inner_step w last (caller ∷ below) t seat (end_loop q) here line tt
pushed_step w last caller below t seat (exit q) here line ends = inner_step w last (caller ∷ below) t seat (exit q) here line tt
pushed_step w last caller below t seat (exit_when e q) here line ends = inner_step w last (caller ∷ below) t seat (exit_when e q) here line tt
pushed_step w last caller below t seat label here line ends = inner_step w last (caller ∷ below) t seat label here line tt
pushed_step w last caller below t seat (goto q) here line ends = inner_step w last (caller ∷ below) t seat (goto q) here line tt
pushed_step w last caller below t seat skip here line ends = inner_step w last (caller ∷ below) t seat skip here line tt
pushed_step w last caller below t seat (assert e) here line ends = inner_step w last (caller ∷ below) t seat (assert e) here line tt
pushed_step w last caller below t seat (return q) here line ends = inner_step w last (caller ∷ below) t seat (return q) here line tt
pushed_step w last caller below t seat (end_procedure e) here line ends = end_step w last caller below t seat e here line (ends e refl)

-- at the end of a frame that was pushed the parameters are handed back
abbrev pub IfLeaves : World → Frame → List Frame → State → Seat → Instruction → Type 0
IfLeaves w last [] t seat i = Unit {0}
IfLeaves w last (caller ∷ below) t seat i = IfEnd w last caller below t seat i

pub turn_of_own : (w : World) (last : Frame) (below : List Frame) (t : State) (seat : Seat) (i : Instruction) → Here w last below t seat
    → slice_get seat.written.lines last.line ≡ Some (own i) → IfLeaves w last below t seat i
    → Simulated w last.procedure (start_in seat last.line) t (own_turn w.text.procs seat.written.places (stack_of last below) below i)
turn_of_own w last [] t seat i here at ends = first_step w last t seat i here (own_line w seat last.line i here.is at)
turn_of_own w last (caller ∷ below) t seat i here at ends = pushed_step w last caller below t seat i here (own_line w seat last.line i here.is at) ends
