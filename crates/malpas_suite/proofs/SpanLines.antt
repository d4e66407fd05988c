-- The calls of a procedure of an expanded text, as a loop over them finds them.
use Rattle.std.proofs.Common.{◌≡◌, inl, inr, ℕ, ◌+◌, ◌<◌, List, [], ◌∷◌, ◌++◌, length, map, take, get_or, slice_get, Some, IfSome, Result, Ok, Err, IfOk, refl, sym, ap, subst, ◌∙◌, arith}
use Rattle.std.specs.Option.{option_map}
use Rattle.std.proofs.lemmas.List.{take_more, map_push}
use Rattle.std.proofs.lemmas.Option.{slice_get-map, slice_get_cases, slice_get_read}
use Rattle.il_called.specs.declared.called.CallSpan.{CallSpan}
use Rattle.il_core.specs.Checked.{NamedProcedure}
use Rattle.il_core.specs.Text.{TextProcedure, text_procedure}
use Rattle.il_inline.specs.Expanded.{IsExpandedText, whole_of}
use Rattle.il_inline.specs.declared.expanded.Expanded.{Expanded}
use Rattle.report.specs.declared.report.CallLine.{CallLine}
use Rattle.report.specs.Reported.{call_line, call_lines}

-- The procedure that is read at a number is that of the text.
read_at : (procs : List NamedProcedure) (k : ℕ) (p : NamedProcedure) → k < length procs → p ≡ get_or procs k p → slice_get (map text_procedure procs) k ≡ Some (text_procedure p)
read_at procs k p inside at = slice_get-map text_procedure procs k ∙ ap (option_map text_procedure) (slice_get_read procs (length procs) k p refl inside at)

-- What is made of the first members of a list, with what is made of the next one.
pub mapped_more : {X Y : Type 0} (f : X → Y) (xs : List X) (i : ℕ) (d : X) (before now : List Y) → i < length xs → before ≡ map f (take i xs)
    → now ≡ before ++ f (get_or xs i d) ∷ [] → now ≡ map f (take (i + 1) xs)
mapped_more f xs i d before now inside made pushed =
    pushed ∙ ap (λ ys. ys ++ f (get_or xs i d) ∷ []) made ∙ sym (map_push f (take i xs) (get_or xs i d)) ∙ ap (map f) (sym (take_more xs i d inside))

-- The calls that are read at a number are those of the procedure of that number.
spans_read : (e : Expanded) (number : ℕ) (spans : List (List CallSpan)) (of : List CallSpan) → IsExpandedText e → number < length e.text.procs → spans ≡ e.spans
    → of ≡ get_or spans number of → slice_get e.spans number ≡ Some of
spans_read e number spans of fits inside is at =
    let few : number < length spans = omega (arith, inside, fits.spans, ap length is) in
    ap (λ xs. slice_get xs number) (sym is) ∙ slice_get_read spans (length spans) number of refl few at

-- Each of them names a procedure of the text.
pub called_within : (e : Expanded) (number : ℕ) (spans : List (List CallSpan)) (of : List CallSpan) (procs : List NamedProcedure) → IsExpandedText e → number < length e.text.procs
    → spans ≡ e.spans → of ≡ get_or spans number of → procs ≡ e.text.procs → (k : ℕ) (span : CallSpan) → slice_get of k ≡ Some span → span.callee < length procs
called_within e number spans of procs fits inside is at all k span here =
    elim (slice_get_cases e.text.procs number).1 [
      | inl found ↦
          let earlier = (fits.calls number k found.0 of span found.2 (spans_read e number spans of fits inside is at) here).earlier in
          omega (arith, inside, earlier, ap length all)
      | inr past ↦ absurd (omega (arith, past.0, inside))
    ]

-- What is made of them is what the report tells of that procedure.
pub lines_at : (e : Expanded) (number : ℕ) (spans : List (List CallSpan)) (of : List CallSpan) (procs : List NamedProcedure) (lines : List CallLine) → IsExpandedText e
    → number < length e.text.procs → spans ≡ e.spans → of ≡ get_or spans number of → procs ≡ e.text.procs → lines ≡ map (call_line (map text_procedure procs)) of
    → slice_get (call_lines (whole_of e)) number ≡ Some lines
lines_at e number spans of procs lines fits inside is at all made =
    let tell = map (call_line (map text_procedure e.text.procs)) in
    slice_get-map tell e.spans number ∙ ap (option_map tell) (spans_read e number spans of fits inside is at)
    ∙ ap (λ ps. Some (map (call_line (map text_procedure ps)) of)) (sym all) ∙ ap Some (sym made)

-- What holds of a result's value, from what else holds of it.
pub of_value : {T E : Type 0} (r : Result T E) (P Q : T → Type 0) → ((x : T) → P x → Q x) → IfOk r P → IfOk r Q
of_value (Ok x) P Q f h = f x h
of_value (Err e) P Q f h = tt

-- What holds of the procedure that is read holds of that of the number.
pub of_read : (procs all : List NamedProcedure) (k : ℕ) (p : NamedProcedure) (P : TextProcedure → Type 0) → k < length all → procs ≡ all → p ≡ get_or procs k p → P (text_procedure p)
    → IfSome (slice_get (map text_procedure all) k) P
of_read procs all k p P inside is at h =
    let few : k < length procs = omega (arith, inside, ap length is) in
    subst (λ o. IfSome o P) (sym (ap (λ ps. slice_get (map text_procedure ps) k) (sym is) ∙ read_at procs k p few at)) h
