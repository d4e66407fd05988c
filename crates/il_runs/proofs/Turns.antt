-- Each turn of the stack machine is simulated by the expanded run.
use Rattle.std.proofs.Common.{◌≡◌, sym, ap, ◌∙◌, subst, ℕ, Option, Some, None, List, [], ◌∷◌, slice_get}
use Rattle.il_core.specs.Evaluation.{State}
use Rattle.il_core.specs.Procedure.{Instruction}
use Rattle.il_core.specs.declared.line.Halt.TheVariants.{End}
use Rattle.il_called.specs.Called.{Passed, WrittenLine, own, call, WrittenProcedure}
use Rattle.il_called.specs.Expansion.{variables_in}
use Rattle.il_inline.specs.Stack.{Frame, Stack, Turn, halts, called_with, variables_given, line_turn, turn}
use Rattle.il_runs.proofs.Asserted.{IfLeaves, turn_of_own}
use Rattle.il_runs.proofs.Call.{call_step}
use Rattle.il_runs.proofs.Chain.{World, wide_of, Stands, Simulated}
use Rattle.il_runs.proofs.Own.{Here, stack_of}
use Rattle.il_runs.proofs.Return.{leaves}
use Rattle.il_runs.proofs.Seat.{Seat, start_in, call_known}

-- a turn, where the last frame's procedure and its line are there
turn_is : (procs : List WrittenProcedure) (stack : Stack) (p : WrittenProcedure) (line : WrittenLine) → slice_get procs stack.last.procedure ≡ Some p
    → slice_get p.lines stack.last.line ≡ Some line → turn procs stack ≡ line_turn procs p stack line
unfolding turn
turn_is procs stack p line e f =
    ap (λ (o : Option WrittenProcedure). elim o [
      | None ↦ halts stack.last.procedure End stack
      | Some x ↦ elim (slice_get x.lines stack.last.line) [ None ↦ halts stack.last.procedure End stack | Some l ↦ line_turn procs x stack l ]
    ]) e
    ∙ ap (λ (o : Option WrittenLine). elim o [ None ↦ halts stack.last.procedure End stack | Some l ↦ line_turn procs p stack l ]) f

call_is : (procs : List WrittenProcedure) (p q : WrittenProcedure) (stack : Stack) (c : ℕ) (arguments : List Passed) → slice_get procs c ≡ Some q
    → line_turn procs p stack (call c arguments) ≡ called_with stack c q (variables_given stack.last.line p.places stack.last.values (variables_in q.places) arguments [])
call_is procs p q stack c arguments e =
    ap (λ (o : Option WrittenProcedure). elim o [
      | None ↦ halts stack.last.procedure End stack
      | Some x ↦ called_with stack c x (variables_given stack.last.line p.places stack.last.values (variables_in x.places) arguments [])
    ]) e

if_leaves : (w : World) (last : Frame) (below : List Frame) (t : State) (seat : Seat) (i : Instruction) → Here w last below t seat
    → slice_get seat.written.lines last.line ≡ Some (own i) → IfLeaves w last below t seat i
if_leaves w last [] t seat i here at = tt
if_leaves w last (caller ∷ below) t seat i here at = λ e same. leaves w last caller below t seat e here (at ∙ ap (λ x. Some (own x)) same)

by_line : (w : World) (last : Frame) (below : List Frame) (t : State) (seat : Seat) (line : WrittenLine) → Here w last below t seat → slice_get seat.written.lines last.line ≡ Some line
    → Simulated w last.procedure (start_in seat last.line) t (line_turn w.text.procs seat.written (stack_of last below) line)
by_line w last below t seat (own i) here at = turn_of_own w last below t seat i here at (if_leaves w last below t seat i here at)
by_line w last below t seat (call c arguments) here at =
    let it = call_known w.text (wide_of w) seat last.line c arguments w.checked here.is at in
    subst (λ (x : Turn). Simulated w last.procedure (start_in seat last.line) t x) (sym (call_is w.text.procs seat.written it.callee (stack_of last below) c arguments it.known.written))
    (call_step w last below t seat c arguments here at it)

pub simulated : (w : World) (stack : Stack) (pc : ℕ) (t : State) → Stands w stack pc t → Simulated w stack.last.procedure pc t (turn w.text.procs stack)
simulated w stack pc t st =
    subst (λ (m : ℕ). Simulated w stack.last.procedure m t (turn w.text.procs stack)) (sym st.stands)
    (subst (λ (x : Turn). Simulated w stack.last.procedure (start_in st.seat stack.last.line) t x)
    (sym (turn_is w.text.procs stack st.seat.written st.line (ap (slice_get w.text.procs) (sym st.number) ∙ st.is.known.written) st.at))
    (by_line w stack.last stack.below t st.seat st.line (record { is = st.is; number = st.number; values = st.values; in_range = st.in_range; chain = st.chain }) st.at))
