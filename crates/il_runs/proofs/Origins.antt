-- The line of the expansion at which a stack stands comes from the line at which its last frame stands.
use Rattle.std.proofs.Common.{◌≡◌, refl, sym, ap, ◌∙◌, subst, ℕ, ◌+◌, inl, inr, Some, List, [], ◌∷◌, length, slice_get, arith}
use Rattle.std.proofs.lemmas.Bool.{cases_lt}
use Rattle.std.proofs.lemmas.Option.{same_Some}
use Rattle.il_core.specs.Evaluation.{State}
use Rattle.il_core.specs.Expression.{Expression}
use Rattle.il_core.specs.Procedure.{Instruction, pre, assign, if_true, otherwise, end_if, loop, end_loop, exit, exit_when, label, goto, skip, assert, return, end_procedure}
use Rattle.il_core.specs.Run.{inout_from}
use Rattle.il_core.specs.declared.line.Place.{Place}
use Rattle.il_called.specs.Called.{Passed, WrittenLine, own, call}
use Rattle.il_called.specs.Expansion.{Callee, inlined, entered, copied, variables_in, entry_width, start_of, origin_at}
use Rattle.il_inline.specs.Calls.{CallFits}
use Rattle.il_inline.specs.Stack.{Stack}
use Rattle.il_inline.proofs.Known.{made}
use Rattle.il_inline.proofs.Shape.{line_calls}
use Rattle.il_inline.proofs.Sizes.{length_lines}
use Rattle.il_inline.proofs.Texts.{there}
use Rattle.il_runs.specs.Runs.{ComesFrom}
use Rattle.il_runs.proofs.Blocks.{Sit, sit_first, own_origin, CallSits, call_sits}
use Rattle.il_runs.proofs.Call.{CallHere, call_here}
use Rattle.il_runs.proofs.Chain.{World, wide_of, Stands}
use Rattle.il_runs.proofs.Fit.{begins_before}
use Rattle.il_runs.proofs.Own.{own_line}
use Rattle.il_runs.proofs.Seat.{Seat, expansion_at, line_in, start_in, IsSeat, called_seat, CallKnown, call_known}

-- no line of a procedure that is called is a precondition
never_pre : (f g : ℕ → ℕ) (e : Expression) (i : Instruction) → inlined f g i ≡ pre e → ⊥
never_pre f g e (pre x) h = cc
never_pre f g e (assign p x) h = cc
never_pre f g e (if_true x q) h = cc
never_pre f g e (otherwise q) h = cc
never_pre f g e end_if h = cc
never_pre f g e loop h = cc
never_pre f g e (end_loop q) h = cc
never_pre f g e (exit q) h = cc
never_pre f g e (exit_when x q) h = cc
never_pre f g e label h = cc
never_pre f g e (goto q) h = cc
never_pre f g e skip h = cc
never_pre f g e (assert x) h = cc
never_pre f g e (return q) h = cc
never_pre f g e (end_procedure x) h = cc

assign_is_no_pre : (p : ℕ) (x e : Expression) → Some (assign p x) ≡ Some (pre e) → ⊥
assign_is_no_pre p x e h = let f : assign p x ≡ pre e = same_Some _ _ h in cc

no_variables : (all : List Instruction) (l : ℕ) (places : List Place) (place : ℕ → ℕ) (k : ℕ) (vs : List Place) (arguments : List Passed) (e : Expression)
    → Sit all l (entered places place k vs arguments) → slice_get all l ≡ Some (pre e) → length vs ≡ 0
no_variables all l places place k [] arguments e sits at = refl
no_variables all l places place k (v ∷ vs) arguments e sits at = absurd (assign_is_no_pre _ _ e (sym (sit_first _ _ _ _ sits) ∙ at))

no_copies : (all : List Instruction) (l : ℕ) (places : List Place) (base k : ℕ) (ns : List ℕ) (e : Expression) → Sit all l (copied places base k ns) → slice_get all l ≡ Some (pre e)
    → length ns ≡ 0
no_copies all l places base k [] e sits at = refl
no_copies all l places base k (n ∷ ns) e sits at = absurd (assign_is_no_pre _ _ e (sym (sit_first _ _ _ _ sits) ∙ at))

-- so no call stands on a line that begins at the first one
no_call : (w : World) (s : Seat) (c : ℕ) (arguments : List Passed) → IsSeat w.text.procs (wide_of w) s → slice_get s.written.lines 0 ≡ Some (call c arguments) → ⊥
no_call w s c arguments is at =
    never_pre _ _ e i.0 (same_Some _ _ (sym (sits.body 0 i.0 i.1) ∙ ap (slice_get (expansion_at s).lines) (let a = variables in let b = copies in let f : (0 + entry_width y) + 0 ≡ 0 = omega arith in f) ∙ begins))
  where
    fits : CallFits s.before c arguments
    fits = line_calls s.before s.written.lines 0 (call c arguments) is.known.calls at

    y : Callee
    y = fits.callee

    sits : CallSits s.before s.number s.written 0 arguments y (expansion_at s).lines (expansion_at s).origins
    sits = call_sits s.before s.number s.written 0 c arguments fits is.known.calls is.earlier at

    e : Expression
    e = is.known.checked.begins.0

    begins : slice_get (expansion_at s).lines 0 ≡ Some (pre e)
    begins = is.known.checked.begins.1

    i : (x : Instruction) × (slice_get y.expanded.lines 0 ≡ Some x)
    i = there y.expanded.lines 0 (let l = fits.lines in omega arith)

    variables : length (variables_in y.written.places) ≡ 0
    variables = no_variables (expansion_at s).lines 0 _ _ _ (variables_in y.written.places) arguments e sits.enters begins

    copies : length (inout_from 0 y.written.places) ≡ 0
    copies = no_copies (expansion_at s).lines (0 + length (variables_in y.written.places)) _ _ _ (inout_from 0 y.written.places) e sits.copies
        (ap (slice_get (expansion_at s).lines) (let a = variables in let f : 0 + length (variables_in y.written.places) ≡ 0 = omega arith in f) ∙ begins)

-- the first line of an expansion comes from the first line of its procedure
first_origin : (w : World) (s : Seat) → IsSeat w.text.procs (wide_of w) s → slice_get (expansion_at s).origins 0 ≡ Some (origin_at s.number 0)
first_origin w s is = by_line first.0 first.1
  where
    first : (x : WrittenLine) × (slice_get s.written.lines 0 ≡ Some x)
    first =
        let lines = length_lines s.before s.written is.known.calls in
        let some = is.known.checked.some_lines in
        there s.written.lines 0 (begins_before s.before s.written.lines 0 (omega arith))

    by_line : (line : WrittenLine) → slice_get s.written.lines 0 ≡ Some line → slice_get (expansion_at s).origins 0 ≡ Some (origin_at s.number 0)
    by_line (own i) at = own_origin s.before s.number s.written 0 i is.known.calls is.earlier at
    by_line (call c arguments) at = absurd (no_call w s c arguments is at)

pub comes_from : (w : World) (stack : Stack) (pc : ℕ) (t : State) → Stands w stack pc t → ComesFrom w.text.procs (wide_of w).origins stack.last pc
comes_from w stack pc t st = subst (λ m. ComesFrom w.text.procs (wide_of w).origins stack.last m) (sym st.stands) (by_line st.line st.at)
  where
    seat : Seat
    seat = st.seat

    n : ℕ
    n = stack.last.line

    named : slice_get (wide_of w).origins (start_in seat n) ≡ Some (origin_at seat.number n) → slice_get (wide_of w).origins (start_in seat n) ≡ Some (origin_at stack.last.procedure n)
    named e = e ∙ ap (λ m. Some (origin_at m n)) st.number

    written : slice_get w.text.procs stack.last.procedure ≡ Some seat.written
    written = ap (slice_get w.text.procs) (sym st.number) ∙ st.is.known.written

    by_call : (c : ℕ) (arguments : List Passed) → slice_get seat.written.lines n ≡ Some (call c arguments) → (it : CallKnown w.text.procs seat n c arguments)
        → CallHere w seat n c arguments it → ComesFrom w.text.procs (wide_of w).origins stack.last (start_in seat n)
    by_call c arguments at it here = elim (cases_lt 0 (entry_width (made it.before c it.callee))) [
      | inl some ↦
          let zeros : start_of seat.before seat.written.lines n ≡ start_of seat.before seat.written.lines n + 0 = omega arith in
          inl (named (st.is.origins (start_of seat.before seat.written.lines n) (origin_at seat.number n)
          (ap (slice_get (expansion_at seat).origins) zeros ∙ here.sits.entry_origin 0 some)))
      | inr none ↦
          let width : entry_width (made it.before c it.callee) ≡ 0 = omega arith in
          let line : start_in seat n ≡ line_in (called_seat seat n c it.callee it.before) 0 = omega arith in
          inr (
            c,
            record { caller = seat.written; callee = it.callee; arguments = arguments; there = written; line = at; called = it.known.written; bare = width },
            ap (slice_get (wide_of w).origins) line ∙ here.is.origins 0 (origin_at c 0) (first_origin w (called_seat seat n c it.callee it.before) here.is),
          )
    ]

    by_line : (line : WrittenLine) → slice_get seat.written.lines n ≡ Some line → ComesFrom w.text.procs (wide_of w).origins stack.last (start_in seat n)
    by_line (own i) at = inl (named (own_line w seat n i st.is at).from)
    by_line (call c arguments) at =
        let it = call_known w.text (wide_of w) seat n c arguments w.checked st.is at in
        by_call c arguments at it (call_here w seat n c arguments st.is at it)
