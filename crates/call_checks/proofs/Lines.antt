-- Each line of an expansion fits where it stands.
use Rattle.std.proofs.Common.{◌≡◌, ◌≢◌, refl, sym, ap, ◌∙◌, subst, ℕ, zero, suc, ◌+◌, ◌-◌, ◌<◌, inl, inr, Option, Some, None, List, [], ◌++◌, length, slice_get, arith}
use Rattle.std.specs.Prelude.{sum_by}
use Rattle.std.specs.Option.{option_map}
use Rattle.std.proofs.lemmas.List.{length-append, length-map}
use Rattle.std.proofs.lemmas.Option.{same_Some, slice_get-map, slice_get_within}
use Rattle.il_core.specs.Checked.{FitsAt}
use Rattle.il_core.specs.Expression.{Expression}
use Rattle.il_core.specs.Procedure.{Instruction, pre, skip, end_procedure}
use Rattle.il_core.specs.Run.{inout_from}
use Rattle.il_core.specs.declared.line.Place.{Place}
use Rattle.il_called.specs.Called.{Passed, WrittenLine, own, call, WrittenProcedure}
use Rattle.il_called.specs.CalledText.{parameters_of}
use Rattle.il_called.specs.Expansion.{Callee, moved, inlined, variables_in, entered, copied, body_of, entry_of, exit_of, entry_width, call_lines, width_of, start_of, base_of, own_place, lines_of, expansion_of}
use Rattle.il_inline.specs.Calls.{CallFits, AllCall}
use Rattle.il_inline.proofs.Held.{width_held}
use Rattle.il_inline.proofs.Shape.{line_calls, start_next}
use Rattle.il_inline.proofs.Sizes.{length_entered, length_copied, length_line, length_lines}
use Rattle.call_checks.specs.Laws.{IsCallable, AreCallable}
use Rattle.call_checks.specs.WellFormed.{IsWellFormed, IsSoundCall, AreArguments, uncalled, without_calls}
use Rattle.call_checks.proofs.Assigned.{AllAssign, assigned_fits, assign_both, Caller, caller_among, entered_sound, copied_sound, handed_sound}
use Rattle.call_checks.proofs.Brought.{call_fits, calls_fit, own_places, Brings, call_brings, variables_brought, copies_brought}
use Rattle.call_checks.proofs.Found.{Later, parted, mapped, found_at}
use Rattle.call_checks.proofs.Moves.{Moves, moved_fits, inlined_fits}
use Rattle.call_checks.proofs.Starts.{start_zero, start_all, start_below, start_target}

-- a line that is none of a call is one of the procedure's own
own_line : (line : WrittenLine) (i : Instruction) → uncalled line ≡ i → i ≢ skip → line ≡ own i
own_line (own j) i e n = ap own e
own_line (call c arguments) i e n = absurd (n (sym e))

pub written_own : (p : WrittenProcedure) (n : ℕ) (i : Instruction) → slice_get (without_calls p).lines n ≡ Some i → i ≢ skip → slice_get p.lines n ≡ Some (own i)
written_own p n i e other =
    let r = mapped uncalled p.lines n i e in
    r.there ∙ ap Some (own_line r.what i r.is other)

pub pre_is_no_skip : (e : Expression) → pre e ≢ skip
pre_is_no_skip e h = cc

pub end_is_no_skip : (e : Expression) → end_procedure e ≢ skip
end_is_no_skip e h = cc

-- what is known of an expansion: its lines are those that its written lines become, the last of them an own one
pub record Expands (callees : List Callee) (number : ℕ) (p : WrittenProcedure) (total : ℕ) : Type 0 where
  pub callable : AreCallable callees
  pub formed : IsWellFormed callees p
  pub calls : AllCall callees p.lines
  pub size : total ≡ sum_by (width_of callees) p.lines
  pub count : length (without_calls p).lines ≡ length p.lines
  pub last : (q : ℕ) → q + 1 ≡ length p.lines → start_of callees p.lines q + 1 ≡ total

pub expands : (callees : List Callee) (number : ℕ) (p : WrittenProcedure) → AreCallable callees → IsWellFormed callees p
    → Expands callees number p (length (expansion_of callees number p).lines)
expands callees number p callable formed = record {
  callable = callable;
  formed = formed;
  calls = calls;
  size = size;
  count = count;
  last = last;
}
  where
    calls : AllCall callees p.lines
    calls = calls_fit callees p callable formed

    size : length (expansion_of callees number p).lines ≡ sum_by (width_of callees) p.lines
    size = length_lines callees p calls

    count : length (without_calls p).lines ≡ length p.lines
    count = length-map p.lines uncalled

    last : (q : ℕ) → q + 1 ≡ length p.lines → start_of callees p.lines q + 1 ≡ length (expansion_of callees number p).lines
    last q e =
        let ends = formed.checked.ends in
        let c = count in
        let f = ends.2 in
        let same : ends.1 ≡ q = omega arith in
        let is : slice_get p.lines q ≡ Some (own (end_procedure ends.0)) =
        ap (slice_get p.lines) (sym same) ∙ written_own p ends.1 (end_procedure ends.0) ends.3 (end_is_no_skip ends.0) in
        let next = start_next callees p.lines q (own (end_procedure ends.0)) is in
        let all : start_of callees p.lines (q + 1) ≡ sum_by (width_of callees) p.lines = ap (start_of callees p.lines) e ∙ start_all callees p.lines in
        let s = size in
        omega arith

-- an own line
own_fits : (callees : List Callee) (number : ℕ) (p : WrittenProcedure) (total : ℕ) → Expands callees number p total → (n : ℕ) (i : Instruction)
    → slice_get p.lines n ≡ Some (own i) → FitsAt (expansion_of callees number p).places total (start_of callees p.lines n) (moved (own_place callees p) (start_of callees p.lines) i)
own_fits callees number p total it n i e =
    moved_fits (own_place callees p) (start_of callees p.lines) p.places wide (length (without_calls p).lines) total n moves first
    (λ q h. it.last q (let c = it.count in omega arith)) i (it.formed.checked.fits n i (slice_get-map uncalled p.lines n ∙ ap (option_map uncalled) e))
  where
    wide : List Place
    wide = (expansion_of callees number p).places

    caller : Caller (own_place callees p) p.places wide
    caller = own_places callees number p it.formed

    within : n < length p.lines
    within = slice_get_within p.lines n (own i) e

    first : n ≡ 0 → start_of callees p.lines n ≡ 0
    first h = ap (start_of callees p.lines) h ∙ start_zero callees p.lines

    moves : Moves (own_place callees p) (start_of callees p.lines) p.places wide (length (without_calls p).lines) total n
    moves = record {
      among = caller_among (own_place callees p) p.places wide caller;
      opened = λ k place h old mode. record { other = place; there = caller.each k place h; variable = old; writable = mode; same = refl };
      next = λ h.
          let c = it.count in
          let s = it.size in
          let f = start_next callees p.lines n (own i) e in
          let b = start_below callees p.lines (n + 1) it.calls (omega arith) in
          omega arith;
      target = λ q t. start_target callees p.lines (length (without_calls p).lines) total n q it.calls it.count it.size (let c = it.count in let w = within in omega arith) t;
    }

-- a line of those that a call becomes
call_line_fits : (callees : List Callee) (number : ℕ) (p : WrittenProcedure) (total : ℕ) → Expands callees number p total → (n c : ℕ) (arguments : List Passed)
    → slice_get p.lines n ≡ Some (call c arguments) → (fits : CallFits callees c arguments) → (sound : IsSoundCall callees p.places c arguments) → sound.callee ≡ fits.callee
    → (m : ℕ) (i : Instruction)
    → slice_get (call_lines p.places (own_place callees p) (base_of callees p n) (start_of callees p.lines n) fits.callee arguments) m ≡ Some i
    → start_of callees p.lines n + entry_width fits.callee + length fits.callee.expanded.lines < total → start_of callees p.lines n + m + 1 < total
    → FitsAt (expansion_of callees number p).places total (start_of callees p.lines n + m) i
call_line_fits callees number p total it n c arguments e fits sound same m i at whole inside =
    elim (parted (entry ++ body_of base middle y) (exit_of f base y arguments) m i at) [
      | inl left ↦ elim (parted entry (body_of base middle y) m i left) [
        | inl first ↦ assigned_fits wide total (start + m) entry m i enters first inside
        | inr within ↦ by_body within
      ]
      | inr last ↦ assigned_fits wide total (start + m) (exit_of f base y arguments) last.member i leaves last.there inside
    ]
  where
    wide : List Place
    wide = (expansion_of callees number p).places

    f : ℕ → ℕ
    f = own_place callees p

    y : Callee
    y = fits.callee

    base : ℕ
    base = base_of callees p n

    start : ℕ
    start = start_of callees p.lines n

    middle : ℕ
    middle = start + entry_width y

    inouts : List ℕ
    inouts = inout_from 0 y.written.places

    entry : List Instruction
    entry = entry_of p.places f base y arguments

    callable : IsCallable y
    callable = it.callable c y fits.there

    caller : Caller f p.places wide
    caller = own_places callees number p it.formed

    brings : Brings wide base y.expanded.places
    brings = call_brings callees number p n c arguments fits e

    arguments_sound : AreArguments p.places (parameters_of y.written) arguments
    arguments_sound = subst (λ (z : Callee). AreArguments p.places (parameters_of z.written) arguments) same sound.sound

    enters : AllAssign wide entry
    enters = assign_both wide (entered p.places f base (variables_in y.written.places) arguments)
        (copied y.written.places base (base + (length y.expanded.places - length inouts)) inouts)
        (entered_sound f p.places wide caller base (variables_in y.written.places) arguments (variables_brought wide base y callable brings) fits.suits arguments_sound)
        (copied_sound wide y.written.places base (base + (length y.expanded.places - length inouts)) inouts (copies_brought wide base y callable brings))

    leaves : AllAssign wide (exit_of f base y arguments)
    leaves = handed_sound f p.places wide caller base (variables_in y.written.places) arguments (variables_brought wide base y callable brings) fits.suits arguments_sound

    entry_size : length entry ≡ entry_width y
    entry_size =
        let a = length_entered p.places f base (variables_in y.written.places) arguments in
        let b = length_copied y.written.places base (base + (length y.expanded.places - length inouts)) inouts in
        let l = length-append (entered p.places f base (variables_in y.written.places) arguments) (copied y.written.places base (base + (length y.expanded.places - length inouts)) inouts) in
        omega arith

    moves : (j : ℕ) → Moves (λ k. base + k) (λ l. middle + l) y.expanded.places wide (length y.expanded.lines) total j
    moves j = record {
      among = record { each = brings.among };
      opened = λ k place h old mode. brings.opened k place h;
      next = λ h. omega arith;
      target = λ q t. let a = t.inside in let b = t.later in record { inside = omega arith; later = omega arith; other = λ h. t.other (omega arith) };
    }

    by_body : Later entry (body_of base middle y) m i → FitsAt wide total (start + m) i
    by_body later =
        let r = mapped (inlined (λ k. base + k) (λ l. middle + l)) y.expanded.lines later.member i later.there in
        let a = later.at in
        let s = entry_size in
        let here : middle + later.member ≡ start + m = omega arith in
        subst (FitsAt wide total (start + m)) r.is
        (subst (λ pc. FitsAt wide total pc (inlined (λ k. base + k) (λ l. middle + l) r.what)) here
        (inlined_fits (λ k. base + k) (λ l. middle + l) y.expanded.places wide (length y.expanded.lines) total later.member (moves later.member) (omega arith) r.what
        (callable.checked.fits later.member r.what r.there)))

-- a line of those that a written line becomes
line_fits : (callees : List Callee) (number : ℕ) (p : WrittenProcedure) (total : ℕ) → Expands callees number p total → (n m : ℕ) (line : WrittenLine) (i : Instruction)
    → slice_get p.lines n ≡ Some line → slice_get (lines_of callees p n line) m ≡ Some i → FitsAt (expansion_of callees number p).places total (start_of callees p.lines n + m) i
line_fits callees number p total it n zero (own x) i e h =
    let here : start_of callees p.lines n ≡ start_of callees p.lines n + 0 = omega arith in
    subst (FitsAt (expansion_of callees number p).places total (start_of callees p.lines n + 0)) (same_Some _ _ h)
    (subst (λ pc. FitsAt (expansion_of callees number p).places total pc (moved (own_place callees p) (start_of callees p.lines) x)) here (own_fits callees number p total it n x e))
line_fits callees number p total it n (suc m) (own x) i e h = grind arith
line_fits callees number p total it n m (call c arguments) i e h =
    let fits = call_fits callees p it.callable it.formed n c arguments e in
    let sound = it.formed.calls n c arguments e in
    let here = subst (λ (o : Option Callee). slice_get {X = Instruction} (elim o [
      | None ↦ []
      | Some y ↦ call_lines p.places (own_place callees p) (base_of callees p n) (start_of callees p.lines n) y arguments
    ]) m ≡ Some i) fits.there h in
    let followed : n + 1 < length (without_calls p).lines = it.formed.checked.fits n skip (slice_get-map uncalled p.lines n ∙ ap (option_map uncalled) e) in
    let count = it.count in
    let size = it.size in
    let next = start_next callees p.lines n (call c arguments) e in
    let below = start_below callees p.lines (n + 1) it.calls (omega arith) in
    let width = length_line callees p n (call c arguments) (line_calls callees p.lines n (call c arguments) it.calls e) in
    let within = slice_get_within (lines_of callees p n (call c arguments)) m i h in
    let held = width_held callees c arguments fits.callee fits.there in
    call_line_fits callees number p total it n c arguments e fits sound (same_Some _ _ (sym sound.there ∙ fits.there)) m i here (omega arith) (omega arith)

pub expansion_fits : (callees : List Callee) (number : ℕ) (p : WrittenProcedure) → AreCallable callees → IsWellFormed callees p → (pc : ℕ) (i : Instruction)
    → slice_get (expansion_of callees number p).lines pc ≡ Some i → FitsAt (expansion_of callees number p).places (length (expansion_of callees number p).lines) pc i
expansion_fits callees number p callable formed pc i e =
    let it = expands callees number p callable formed in
    let r = found_at (lines_of callees p) (width_of callees) 0 p.lines (λ n k line h. length_line callees p n line (line_calls callees p.lines k line it.calls h)) pc i e in
    let zeros : 0 + r.line ≡ r.line = omega arith in
    subst (λ m. FitsAt (expansion_of callees number p).places (length (expansion_of callees number p).lines) m i) (sym r.at)
    (line_fits callees number p (length (expansion_of callees number p).lines) it r.line r.member r.what i r.there
    (subst (λ n. slice_get (lines_of callees p n r.what) r.member ≡ Some i) zeros r.is))
