-- The parts of an expanded text fit together: each line has an origin, and the lines of each call are lines of its procedure.
use Rattle.std.proofs.Common.{◌≡◌, ℕ, zero, suc, ◌+◌, ◌-◌, ◌<◌, List, [], ◌∷◌, ◌++◌, length, map, refl, sym, ap, ◌∙◌, subst, arith}
use Rattle.std.specs.Prelude.{count_by, slice_get, Option, Some, None}
use Rattle.std.specs.Option.{option_map}
use Rattle.std.proofs.lemmas.List.{length-append, length-map}
use Rattle.std.proofs.lemmas.Option.{same_Some, slice_get-map, slice_get_within}
use Rattle.il_core.specs.Checked.{NamedProcedure}
use Rattle.il_core.specs.Procedure.{instruction_of}
use Rattle.il_core.specs.Text.{Text, TextProcedure, text_procedure}
use Rattle.il_called.specs.Called.{Passed, WrittenLine, own, call, WrittenProcedure, WrittenText}
use Rattle.il_called.specs.CalledText.{IsCalledText}
use Rattle.il_called.specs.Expansion.{Callee, width_of, call_width, entry_width, each_from, lines_of, origin_at, origins_of, spans_of, start_of, repeated, variables_in, is_returned, callees_of}
use Rattle.il_called.specs.declared.called.CallSpan.{CallSpan}
use Rattle.il_called.specs.declared.called.Origin.{Origin}
use Rattle.il_inline.specs.Calls.{LineCalls, AllCall}
use Rattle.il_inline.specs.Expanded.{IsExpanded, expanded_procedure, SpanFits, IsExpandedText}
use Rattle.il_inline.specs.declared.expanded.Expanded.{Expanded}
use Rattle.il_inline.proofs.Held.{width_held, origins_held}
use Rattle.il_inline.proofs.Known.{made, count_callees, Known, KnownBefore, known_at, known_before}
use Rattle.il_inline.proofs.Shape.{each_member, ComesFrom, line_calls, start_next, start_within}
use Rattle.il_inline.proofs.Sizes.{length_each, length_lines, wide}
use Rattle.il_inline.proofs.Texts.{there}

pub length_repeated : (o : Origin) (n : ℕ) → length (repeated o n) ≡ n
length_repeated o zero = refl
length_repeated o (suc n) = ap suc (length_repeated o n)

-- an origin for each line of a procedure that may be called
abbrev pub HasOrigins : Callee → Type 0
HasOrigins it = length it.expanded.origins ≡ length it.expanded.lines

pub line_origins : (before : List Callee) (k n : ℕ) (line : WrittenLine) → ((c : ℕ) (y : Callee) → slice_get before c ≡ Some y → HasOrigins y) → LineCalls before line
    → length (origins_of before k n line) ≡ width_of before line
line_origins before k n (own i) each h = refl
line_origins before k n (call c arguments) each h =
    let y = h.callee in
    let o = origin_at k n in
    let back = count_by (λ v. is_returned v.mode) (variables_in y.written.places) in
    let e = each c y h.there in
    let a = length_repeated o (entry_width y) in
    let b = length_repeated o back in
    let l = length-append (repeated o (entry_width y) ++ y.expanded.origins) (repeated o back) in
    let m = length-append (repeated o (entry_width y)) y.expanded.origins in
    let w : width_of before (call c arguments) ≡ call_width y = width_held before c arguments y h.there in
    let all : length (repeated o (entry_width y) ++ y.expanded.origins ++ repeated o back) ≡ call_width y = omega arith in
    ap length (origins_held before k n c arguments y h.there) ∙ all ∙ sym w

-- each line of an expansion has one; limit bounds the procedure's number
origins_known : (t : WrittenText) (limit k : ℕ) (p : WrittenProcedure) (before : List Callee) → IsCalledText t → Known t.procs k p before → k < limit → HasOrigins (made before k p)
origins_known t zero k p before h known small = absurd (omega arith)
origins_known t (suc limit) k p before h known small =
    let each : (c : ℕ) (y : Callee) → slice_get before c ≡ Some y → HasOrigins y = λ c y e.
    let size = known.size in
    let below = slice_get_within before c y e in
    let it = known_before t k p before c y h known e in
    subst HasOrigins it.same (origins_known t limit c y.written it.before h it.known (omega arith)) in
    length_each (origins_of before k) (width_of before) (LineCalls before) (AllCall before) 0 p.lines (λ x ys all. all) (λ n line calls. line_origins before k n line each calls) known.calls
    ∙ sym (length_lines before p known.calls)

pub origins_before : (t : WrittenText) (k : ℕ) (p : WrittenProcedure) (before : List Callee) → IsCalledText t → Known t.procs k p before
    → (c : ℕ) (y : Callee) → slice_get before c ≡ Some y → HasOrigins y
origins_before t k p before h known c y e =
    let it = known_before t k p before c y h known e in
    subst HasOrigins it.same (origins_known t (suc c) c y.written it.before h it.known (omega arith))

abbrev span_made : ℕ → ℕ → ℕ → CallSpan
span_made first next c = record { first = first; last = next - 1; callee = c }

spans_held : (before : List Callee) (p : WrittenProcedure) (n c : ℕ) (arguments : List Passed) (callee : Callee) → slice_get before c ≡ Some callee
    → spans_of before p n (call c arguments) ≡ span_made (start_of before p.lines n) (start_of before p.lines (n + 1)) c ∷ []
spans_held before p n c arguments callee e =
    ap (λ (o : Option Callee). elim o [ None ↦ [] | Some it ↦ span_made (start_of before p.lines n) (start_of before p.lines (n + 1)) c ∷ [] ]) e

only : {X : Type 0} (x : X) (n : ℕ) (y : X) → slice_get (x ∷ []) n ≡ Some y → x ≡ y
only x zero y e = same_Some _ _ e
only x (suc n) y e = grind arith

-- the lines of each call are lines of its procedure
span_known : (procs : List WrittenProcedure) (k : ℕ) (p : WrittenProcedure) (before : List Callee) (n : ℕ) (span : CallSpan) → Known procs k p before
    → slice_get (each_from (spans_of before p) 0 p.lines) n ≡ Some span → SpanFits (length (each_from (lines_of before p) 0 p.lines)) k span
span_known procs k p before n span known e = by_line from.what from.there (line_calls before p.lines from.line from.what known.calls from.there) from.is
  where
    from : ComesFrom (spans_of before p) 0 p.lines span
    from = each_member (spans_of before p) 0 p.lines n span e

    by_line : (line : WrittenLine) → slice_get p.lines from.line ≡ Some line → LineCalls before line → slice_get (spans_of before p (0 + from.line) line) from.member ≡ Some span
        → SpanFits (length (each_from (lines_of before p) 0 p.lines)) k span
    by_line (own i) at calls is = grind arith
    by_line (call c arguments) at calls is =
        let n = from.line in
        let first = start_of before p.lines n in
        let size = known.size in
        let below = slice_get_within before c calls.callee calls.there in
        let zeros : 0 + n ≡ n = omega arith in
        let it = span_made first (start_of before p.lines (n + 1)) c in
        let is_span : slice_get (it ∷ []) from.member ≡ Some span =
        subst (λ (l : List CallSpan). slice_get l from.member ≡ Some span) (ap (λ (m : ℕ). spans_of before p m (call c arguments)) zeros ∙ spans_held before p n c arguments calls.callee calls.there) is in
        let w = wide before (call c arguments) calls in
        let next = start_next before p.lines n (call c arguments) at in
        let total = start_within before p.lines (n + 1) in
        let lines = length_lines before p known.calls in
        subst (SpanFits (length (each_from (lines_of before p) 0 p.lines)) k) (only it from.member span is_span)
        (record { ordered = omega arith; inside = omega arith; earlier = omega arith })

-- the parts of the procedure of a number
record Parts (t : WrittenText) (k : ℕ) (text : NamedProcedure) : Type 0 where
  callee : Callee
  is : slice_get (callees_of t.procs) k ≡ Some callee
  lines : length text.lines ≡ length callee.expanded.lines

procedure_parts : (t : WrittenText) (procs : List NamedProcedure) (k : ℕ) (text : NamedProcedure) → map text_procedure procs ≡ map expanded_procedure (callees_of t.procs)
    → slice_get procs k ≡ Some text → Parts t k text
procedure_parts t procs k text e at = by_callee (slice_get (callees_of t.procs) k) refl
  where
    same : Some (text_procedure text) ≡ option_map expanded_procedure (slice_get (callees_of t.procs) k)
    same = sym (slice_get-map text_procedure procs k ∙ ap (option_map text_procedure) at) ∙ ap (λ (l : List TextProcedure). slice_get l k) e
        ∙ slice_get-map expanded_procedure (callees_of t.procs) k

    by_callee : (o : Option Callee) → slice_get (callees_of t.procs) k ≡ o → Parts t k text
    by_callee None none = absurd (let d = same ∙ ap (option_map expanded_procedure) none in grind arith)
    by_callee (Some y) some =
        let b : text_procedure text ≡ expanded_procedure y = same_Some _ _ (same ∙ ap (option_map expanded_procedure) some) in
        let l : map instruction_of text.lines ≡ y.expanded.lines = ap (λ (x : TextProcedure). x.body.lines) b in
        record { callee = y; is = some; lines = sym (length-map text.lines instruction_of) ∙ ap length l }

-- a procedure that is expanded is known
callee_known : (t : WrittenText) (k : ℕ) (y : Callee) → IsCalledText t → slice_get (callees_of t.procs) k ≡ Some y → KnownBefore t.procs k y
callee_known t k y h e =
    let counts = count_callees t.procs in
    let small = slice_get_within (callees_of t.procs) k y e in
    let q = there t.procs k (omega arith) in
    let f = known_at t k q.0 h q.1 in
    let same : made f.0 k q.0 ≡ y = same_Some _ _ (sym f.1.is ∙ e) in
    let written : q.0 ≡ y.written = ap (λ (it : Callee). it.written) same in
    record {
      before = f.0;
      known = subst (λ (r : WrittenProcedure). Known t.procs k r f.0) written f.1;
      same = subst (λ (r : WrittenProcedure). made f.0 k r ≡ y) written same;
    }

pub together : (t : WrittenText) (e : Expanded) → IsCalledText t → IsExpanded t e → IsExpandedText e
together t e h is = record {
  origins = ap length is.origins ∙ length-map (callees_of t.procs) (λ c. c.expanded.origins) ∙ sym counts;
  spans = ap length is.spans ∙ length-map (callees_of t.procs) (λ c. c.expanded.spans) ∙ sym counts;
  lines = λ k p from at o.
      let part = procedure_parts t e.text.procs k p procs at in
      let of = callee_known t k part.callee h part.is in
      let same : from ≡ part.callee.expanded.origins =
      same_Some _ _ (sym o ∙ ap (λ l. slice_get l k) is.origins ∙ slice_get-map (λ c. c.expanded.origins) (callees_of t.procs) k ∙ ap (option_map (λ c. c.expanded.origins)) part.is) in
      ap length same ∙ subst HasOrigins of.same (origins_known t (suc k) k part.callee.written of.before h of.known (omega arith)) ∙ sym part.lines;
  calls = λ k n p calls span at o s.
      let part = procedure_parts t e.text.procs k p procs at in
      let of = callee_known t k part.callee h part.is in
      let same : calls ≡ part.callee.expanded.spans =
      same_Some _ _ (sym o ∙ ap (λ l. slice_get l k) is.spans ∙ slice_get-map (λ c. c.expanded.spans) (callees_of t.procs) k ∙ ap (option_map (λ c. c.expanded.spans)) part.is) in
      let stands : slice_get part.callee.expanded.spans n ≡ Some span = ap (λ (l : List CallSpan). slice_get l n) (sym same) ∙ s in
      let fits = subst (λ (it : Callee). slice_get it.expanded.spans n ≡ Some span → SpanFits (length it.expanded.lines) k span) of.same
      (λ there. span_known t.procs k part.callee.written of.before n span of.known there) stands in
      subst (λ m. SpanFits m k span) (sym part.lines) fits;
}
  where
    procs : map text_procedure e.text.procs ≡ map expanded_procedure (callees_of t.procs)
    procs = ap (λ (x : Text). x.procs) is.text

    counts : length e.text.procs ≡ length (callees_of t.procs)
    counts = sym (length-map e.text.procs text_procedure) ∙ ap length procs ∙ length-map (callees_of t.procs) expanded_procedure
