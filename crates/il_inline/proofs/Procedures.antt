-- What makes the expansion of one procedure, over those that are expanded.
use Rattle.std.proofs.Common.{◌≡◌, ℕ, zero, suc, ◌+◌, ◌-◌, ◌≤◌, List, [], ◌∷◌, ◌++◌, length, map, drop, refl, sym, ap, ◌∙◌, subst, arith}
use Rattle.std.specs.Prelude.{sum_by, slice_get, Option, None, Some}
use Rattle.std.proofs.Math.Path.{fun_ext}
use Rattle.std.proofs.lemmas.List.{length-append}
use Rattle.std.proofs.lemmas.List.Sums.{length-filter, count_by-le-length}
use Rattle.il_core.specs.Run.{is_variable}
use Rattle.std.proofs.lemmas.Option.{slice_get_within}
use Rattle.il_core.specs.Checked.{IsChecked}
use Rattle.il_core.specs.Procedure.{Procedure, Instruction}
use Rattle.il_core.specs.declared.line.Place.{Place}
use Rattle.il_called.specs.Called.{WrittenLine, own, call, WrittenProcedure}
use Rattle.il_called.specs.Expansion.{Callee, Expansion, procedure_in, variables_in, width_of, brings, each_from, places_of, spans_of, start_of, call_number, brought, expansion_of}
use Rattle.il_called.specs.declared.called.CalledProc.{CalledProc}
use Rattle.il_called.specs.declared.called.CallSpan.{CallSpan}
use Rattle.il_called.specs.declared.called.Origin.{Origin}
use Rattle.il_inline.specs.declared.inlined.Inlined.{Inlined}
use Rattle.il_inline.specs.declared.layout.Layout.{Layout}
use Rattle.il_inline.specs.declared.renumbering.Renumbering.{Renumbering}
use Rattle.il_inline.specs.Calls.{LineCalls, AllCall}
use Rattle.il_inline.specs.Fits.{AreShort}
use Rattle.il_inline.specs.Held.{callees_held, AllCallBelow}
use Rattle.il_inline.specs.Slots.{start_in, lines_by, places_by, spans_by}
use Rattle.il_inline.specs.Within.{AreWithin}
use Rattle.il_inline.proofs.Layouts.{IsLayout, lines_are}
use Rattle.il_inline.proofs.Limits.{checked_within, short_left, short_right}
use Rattle.il_inline.proofs.Sizes.{length_lines, length_places, lines_within}

pub calls_below : (callees : List Callee) (count : ℕ) (lines : List WrittenLine) → length callees ≡ count → AllCall callees lines → AllCallBelow count lines
calls_below callees count [] e h = tt
calls_below callees count (own i ∷ lines) e h = (tt, calls_below callees count lines e h.1)
calls_below callees count (call n arguments ∷ lines) e h =
    let t = h.0 in
    let w = slice_get_within callees n t.callee t.there in
    (omega arith, calls_below callees count lines e h.1)

pub few_lines : (callees : List Callee) (number : ℕ) (p : WrittenProcedure) → AllCall callees p.lines → IsChecked (procedure_in (expansion_of callees number p))
    → sum_by (width_of callees) p.lines ≤ 1000
few_lines callees number p calls checked = subst (λ n. n ≤ 1000) (length_lines callees p calls) checked.few_lines

pub few_written : (callees : List Callee) (number : ℕ) (p : WrittenProcedure) → AllCall callees p.lines → IsChecked (procedure_in (expansion_of callees number p))
    → length p.lines ≤ 1000
few_written callees number p calls checked =
    let w = few_lines callees number p calls checked in
    let l = lines_within callees p.lines calls in
    omega arith

pub few_places : (callees : List Callee) (number : ℕ) (p : WrittenProcedure) → IsChecked (procedure_in (expansion_of callees number p))
    → length (variables_in p.places) + sum_by (brings callees) p.lines ≤ 64
few_places callees number p checked =
    let variables = variables_in p.places in
    let middle = each_from (places_of callees p) 0 p.lines in
    let rest = drop (length variables) p.places in
    let few : length (variables ++ middle ++ rest) ≤ 64 = checked.few_places in
    let a : length (variables ++ middle ++ rest) ≡ length (variables ++ middle) + length rest = length-append (variables ++ middle) rest in
    let b : length (variables ++ middle) ≡ length variables + length middle = length-append variables middle in
    let m : length middle ≡ sum_by (brings callees) p.lines = length_places callees p in
    omega arith

-- the places by a layout are those of the expansion
places_same : (k : ℕ) (ps : List CalledProc) (xs : List Inlined) (c : ℕ) → length xs ≤ length ps
    → ◌≡◌ {A = List Place} (elim (slice_get xs c) [ None ↦ [] | Some x ↦ map (brought k) x.proc.places ])
    (elim (slice_get (callees_held ps xs) c) [ None ↦ [] | Some it ↦ map (brought k) it.expanded.places ])
places_same k ps [] c h = refl
places_same k [] (x ∷ xs) c h = absurd (omega arith)
places_same k (p ∷ ps) (x ∷ xs) zero h = refl
places_same k (p ∷ ps) (x ∷ xs) (suc c) h = places_same k ps xs c (omega arith)

pub places_are : (ps : List CalledProc) (xs : List Inlined) (p : WrittenProcedure) (layout : Layout) → length xs ≤ length ps
    → IsLayout (callees_held ps xs) (length (variables_in p.places)) p.lines layout → places_by xs layout ≡ places_of (callees_held ps xs) p
places_are ps xs p layout sizes is = fun_ext (λ n. fun_ext (λ line. at n line))
  where
    at : (n : ℕ) (line : WrittenLine) → places_by xs layout n line ≡ places_of (callees_held ps xs) p n line
    at n (own i) = refl
    at n (call c arguments) =
        ap (λ (k : ℕ). elim (slice_get xs c) [ None ↦ [] | Some x ↦ map (brought (k + 1)) x.proc.places ]) (is.calls n)
        ∙ places_same (call_number p.lines n) ps xs c sizes

-- what a list becomes by two rules that agree on its members
each_same : {Y : Type 0} (callees : List Callee) (f g : ℕ → WrittenLine → List Y) (k : ℕ) (lines : List WrittenLine)
    → ((n : ℕ) (line : WrittenLine) → LineCalls callees line → f n line ≡ g n line) → AllCall callees lines → each_from f k lines ≡ each_from g k lines
each_same callees f g k [] same h = refl
each_same callees f g k (line ∷ lines) same h =
    ap (λ l. l ++ each_from f (suc k) lines) (same k line h.0) ∙ ap (λ l. g k line ++ l) (each_same callees f g (suc k) lines same h.1)

abbrev span_made : ℕ → ℕ → ℕ → List CallSpan
span_made a b c = record { first = a; last = b - 1; callee = c } ∷ []

pub spans_are : (callees : List Callee) (p : WrittenProcedure) (layout : Layout) → IsLayout callees (length (variables_in p.places)) p.lines layout → AllCall callees p.lines
    → each_from (spans_by layout) 0 p.lines ≡ each_from (spans_of callees p) 0 p.lines
spans_are callees p layout is calls = each_same callees (spans_by layout) (spans_of callees p) 0 p.lines at calls
  where
    at : (n : ℕ) (line : WrittenLine) → LineCalls callees line → spans_by layout n line ≡ spans_of callees p n line
    at n (own i) h = refl
    at n (call c arguments) h =
        ap (λ (a : ℕ). span_made a (start_in layout (n + 1)) c) (is.start n) ∙ ap (λ (b : ℕ). span_made (start_of callees p.lines n) b c) (is.start (n + 1))
        ∙ sym (ap (λ (o : Option Callee). elim o [ None ↦ [] | Some it ↦ span_made (start_of callees p.lines n) (start_of callees p.lines (n + 1)) c ]) h.there)

-- the limits that the making of lines and places needs
pub lines_limited : (callees : List Callee) (number : ℕ) (p : WrittenProcedure) (under : Renumbering) (layout : Layout)
    → IsLayout callees (length (variables_in p.places)) p.lines layout → under ≡ record { kept = length (variables_in p.places); shift = sum_by (brings callees) p.lines }
    → IsChecked (procedure_in (expansion_of callees number p)) → AreWithin (each_from (lines_by callees p.places under layout) 0 p.lines)
lines_limited callees number p under layout is e checked =
    subst (λ (f : ℕ → WrittenLine → List Instruction). AreWithin (each_from f 0 p.lines)) (sym (lines_are callees p under layout is e))
    (checked_within (procedure_in (expansion_of callees number p)) checked)

pub places_short : (ps : List CalledProc) (xs : List Inlined) (number : ℕ) (p : WrittenProcedure) (layout : Layout) → length xs ≤ length ps
    → IsLayout (callees_held ps xs) (length (variables_in p.places)) p.lines layout → AreShort (expansion_of (callees_held ps xs) number p).places
    → AreShort (each_from (places_by xs layout) 0 p.lines)
places_short ps xs number p layout sizes is short =
    let variables = variables_in p.places in
    let middle = each_from (places_of (callees_held ps xs) p) 0 p.lines in
    let rest = drop (length variables) p.places in
    subst (λ (f : ℕ → WrittenLine → List Place). AreShort (each_from f 0 p.lines)) (sym (places_are ps xs p layout sizes is))
    (short_right variables middle (short_left (variables ++ middle) rest short))

abbrev moved_by : ℕ → ℕ → Renumbering
moved_by a b = record { kept = a; shift = b }

abbrev procedure_with : List Place → List Instruction → Procedure
procedure_with places lines = record { places = places; lines = lines }

-- the shift of the OLD copies
pub shift_is : (callees : List Callee) (variables : ℕ) (lines : List WrittenLine) (layout : Layout) (under : Renumbering) (kept : ℕ)
    → layout.end.base ≡ variables + sum_by (brings callees) lines → kept ≡ variables → under ≡ record { kept = kept; shift = layout.end.base - kept }
    → under ≡ record { kept = variables; shift = sum_by (brings callees) lines }
shift_is callees variables lines layout under kept e k u =
    let s : layout.end.base - kept ≡ sum_by (brings callees) lines = omega arith in
    u ∙ ap (λ (n : ℕ). moved_by n (layout.end.base - kept)) k ∙ ap (λ (n : ℕ). moved_by variables n) s

abbrev made_of : List Place → List Instruction → List Origin → List CallSpan → Expansion
made_of places lines origins spans = record { places = places; lines = lines; origins = origins; spans = spans }

pub expansion_same : (a b : List Place) (c d : List Instruction) (e f : List Origin) (g h : List CallSpan) → a ≡ b → c ≡ d → e ≡ f → g ≡ h
    → made_of a c e g ≡ made_of b d f h
expansion_same a b c d e f g h p q r s =
    ap (λ (x : List Place). made_of x c e g) p ∙ ap (λ (x : List Instruction). made_of b x e g) q ∙ ap (λ (x : List Origin). made_of b d x g) r ∙ ap (λ (x : List CallSpan). made_of b d f x) s

pub fewer_variables : (places : List Place) → length (variables_in places) ≤ length places
fewer_variables places =
    let e = length-filter is_variable places in
    let l = count_by-le-length is_variable places in
    omega arith

pub procedure_same : (places others all : List Place) (lines same : List Instruction) → places ≡ others → others ≡ all → lines ≡ same → procedure_with places lines ≡ procedure_with all same
procedure_same places others all lines same e f g = ap (λ (x : List Place). procedure_with x lines) (e ∙ f) ∙ ap (λ (x : List Instruction). procedure_with all x) g

-- the places and the lines that are made are those of the expansion
pub procedure_made : (ps : List CalledProc) (xs : List Inlined) (p : WrittenProcedure) (layout : Layout) (under : Renumbering) (kept : ℕ) → length xs ≤ length ps
    → IsLayout (callees_held ps xs) (length (variables_in p.places)) p.lines layout → kept ≡ length (variables_in p.places)
    → under ≡ record { kept = kept; shift = layout.end.base - kept }
    → (variables more all : List Place) (lines : List Instruction) → variables ≡ variables_in p.places → more ≡ variables ++ each_from (places_by xs layout) 0 p.lines
    → all ≡ more ++ drop kept p.places → lines ≡ each_from (lines_by (callees_held ps xs) p.places under layout) 0 p.lines
    → (all ≡ (expansion_of (callees_held ps xs) (length xs) p).places) × (lines ≡ (expansion_of (callees_held ps xs) (length xs) p).lines)
procedure_made ps xs p layout under kept sizes is many e variables more all lines v m a l =
    let callees = callees_held ps xs in
    let by = places_are ps xs p layout sizes is in (
      a
          ∙ ap (λ (n : ℕ). more ++ drop n p.places) many
          ∙ ap (λ (x : List Place). x ++ drop (length (variables_in p.places)) p.places)
          (m ∙ ap (λ (x : List Place). x ++ each_from (places_by xs layout) 0 p.lines) v ∙ ap (λ (f : ℕ → WrittenLine → List Place). variables_in p.places ++ each_from f 0 p.lines) by),
      l ∙ ap (λ (f : ℕ → WrittenLine → List Instruction). each_from f 0 p.lines)
          (lines_are callees p under layout is (shift_is callees (length (variables_in p.places)) p.lines layout under kept is.last many e)),
    )
