-- Where the calls of procedures fit, their expansions have as many lines as are counted for them.
use Rattle.std.proofs.Common.{◌≡◌, ℕ, zero, suc, ◌+◌, ◌<◌, ◌≤◌, ◌∙◌, sym, ap, subst, refl, List, [], ◌∷◌, ◌++◌, length, take, arith}
use Rattle.std.specs.Prelude.{Option, Some, None, map, count_by, sum_by, slice_get, unwrap_or}
use Rattle.std.specs.Option.{option_map}
use Rattle.std.proofs.lemmas.List.{length-append, map-append}
use Rattle.std.proofs.lemmas.List.Sums.{sum_by-cons}
use Rattle.std.proofs.lemmas.Option.{same_Some, slice_get-map}
use Rattle.il_core.specs.Procedure.{Instruction}
use Rattle.il_core.specs.declared.line.Place.{Place}
use Rattle.il_called.specs.Called.{Passed, WrittenLine, own, call, WrittenProcedure}
use Rattle.il_called.specs.CalledText.{Suit, CallsFit, parameters_of}
use Rattle.il_called.specs.Expansion.{Callee, callees_behind, callees_of, call_lines, call_width, entry_width, each_from, is_returned, lines_of, own_place, base_of, start_of, variables_in, width_of}
use Rattle.il_inline.proofs.Sizes.{length_call}
use Rattle.call_rules.specs.Limits.{lines_in, counted_width, widths_of}
use Rattle.call_limits.proofs.Callees.{made, callees_push, take_next}
use Rattle.call_limits.proofs.Widths.{widths_push}

abbrev pub AllFit : List WrittenProcedure → Type 0
AllFit procs = (k : ℕ) (p : WrittenProcedure) → slice_get procs k ≡ Some p → CallsFit procs k p

-- a callee as it is written
abbrev pub as_written : Callee → WrittenProcedure
as_written c = c.written

written_behind : (before : List Callee) (ps : List WrittenProcedure) → map as_written (callees_behind before ps) ≡ map as_written before ++ ps
written_behind before [] = sym (append_none (map as_written before))
  where
    append_none : (xs : List WrittenProcedure) → xs ++ [] ≡ xs
    append_none [] = refl
    append_none (x ∷ xs) = ap (λ ys. x ∷ ys) (append_none xs)
written_behind before (p ∷ ps) =
    written_behind (before ++ made before p ∷ []) ps ∙ ap (λ xs. xs ++ ps) (map-append as_written before (made before p ∷ [])) ∙ append_one (map as_written before)
  where
    append_one : (xs : List WrittenProcedure) → (xs ++ p ∷ []) ++ ps ≡ xs ++ p ∷ ps
    append_one [] = refl
    append_one (x ∷ xs) = ap (λ ys. x ∷ ys) (append_one xs)

written_are : (ps : List WrittenProcedure) → map as_written (callees_of ps) ≡ ps
unfolding callees_of
written_are ps = written_behind [] ps

get_taken : {A : Type 0} (xs : List A) (k c : ℕ) → c < k → slice_get (take k xs) c ≡ slice_get xs c
get_taken [] zero c h = absurd (omega arith)
get_taken [] (suc k) c h = refl
get_taken (x ∷ xs) zero c h = absurd (omega arith)
get_taken (x ∷ xs) (suc k) zero h = refl
get_taken (x ∷ xs) (suc k) (suc c) h = get_taken xs k c (omega arith)

-- an earlier procedure, among those that may be called
pub record IsEarlier (procs : List WrittenProcedure) (k c : ℕ) (q : WrittenProcedure) : Type 0 where
  pub callee : Callee
  pub there : slice_get (callees_of (take k procs)) c ≡ Some callee
  pub written : callee.written ≡ q

pub earlier : (procs : List WrittenProcedure) (k c : ℕ) (q : WrittenProcedure) → c < k → slice_get procs c ≡ Some q → IsEarlier procs k c q
earlier procs k c q h e = by (slice_get cs c) refl (sym (slice_get-map as_written cs c) ∙ ap (λ ps. slice_get ps c) (written_are (take k procs)) ∙ get_taken procs k c h ∙ e)
  where
    cs : List Callee
    cs = callees_of (take k procs)

    by : (o : Option Callee) → slice_get (callees_of (take k procs)) c ≡ o → option_map as_written o ≡ Some q → IsEarlier procs k c q
    by None there g = absurd (cc)
    by (Some callee) there g = record { callee = callee; there = there; written = same_Some _ _ g }

-- the length of what a list becomes
pub length_each : {X Y : Type 0} (f : ℕ → X → List Y) (g : X → ℕ) (k : ℕ) (xs : List X) → ((n i : ℕ) (x : X) → slice_get xs i ≡ Some x → length (f n x) ≡ g x)
    → length (each_from f k xs) ≡ sum_by g xs
length_each f g k [] each = refl
length_each f g k (x ∷ xs) each =
    length-append (f k x) (each_from f (suc k) xs) ∙ ap (λ n. n + length (each_from f (suc k) xs)) (each k 0 x refl)
    ∙ ap (λ n. g x + n) (length_each f g (suc k) xs (λ n i y e. each n (suc i) y e)) ∙ sym (sum_by-cons g x xs)

width_there : (cs : List Callee) (c : ℕ) (arguments : List Passed) (callee : Callee) → slice_get cs c ≡ Some callee → width_of cs (call c arguments) ≡ call_width callee
width_there cs c arguments callee e = ap (λ (o : Option Callee). elim o [ None ↦ 1 | Some it ↦ call_width it ]) e

-- each line of a procedure whose calls fit becomes as many as its width
line_length : (procs : List WrittenProcedure) (k : ℕ) (p : WrittenProcedure) (n i : ℕ) (line : WrittenLine) → CallsFit procs k p → slice_get p.lines i ≡ Some line
    → length (lines_of (callees_of (take k procs)) p n line) ≡ width_of (callees_of (take k procs)) line
line_length procs k p n i (own x) fit e = refl
line_length procs k p n i (call c arguments) fit e =
    let cs = callees_of (take k procs) in
    let f = fit i c arguments e in
    let b = earlier procs k c f.1.0 f.0 f.1.1 in
    let suit : Suit (parameters_of b.callee.written) arguments = subst (λ (q : WrittenProcedure). Suit (parameters_of q) arguments) (sym b.written) f.1.2 in
    ap (λ (o : Option Callee). length {A = Instruction} (elim o [ None ↦ [] | Some it ↦ call_lines p.places (own_place cs p) (base_of cs p n) (start_of cs p.lines n) it arguments ])) b.there
    ∙ length_call p.places (own_place cs p) (base_of cs p n) (start_of cs p.lines n) b.callee arguments suit
    ∙ sym (width_there cs c arguments b.callee b.there)

pub lines_length : (procs : List WrittenProcedure) (k : ℕ) (p : WrittenProcedure) → CallsFit procs k p
    → length (each_from (lines_of (callees_of (take k procs)) p) 0 p.lines) ≡ sum_by (width_of (callees_of (take k procs))) p.lines
lines_length procs k p fit = length_each (lines_of (callees_of (take k procs)) p) (width_of (callees_of (take k procs))) 0 p.lines
    (λ n i line e. line_length procs k p n i line fit e)

-- what a line counts as is its width
line_counted : (cs : List Callee) (line : WrittenLine) → lines_in (map call_width cs) line ≡ width_of cs line
line_counted cs (own i) = refl
line_counted cs (call n arguments) = ap (λ o. unwrap_or o 1) (slice_get-map call_width cs n) ∙ by (slice_get cs n)
  where
    by : (o : Option Callee) → unwrap_or (option_map call_width o) 1 ≡ elim o [ None ↦ 1 | Some callee ↦ call_width callee ]
    by None = refl
    by (Some callee) = refl

lines_counted : (cs : List Callee) (lines : List WrittenLine) → sum_by (lines_in (map call_width cs)) lines ≡ sum_by (width_of cs) lines
lines_counted cs [] = refl
lines_counted cs (line ∷ lines) =
    sum_by-cons (lines_in (map call_width cs)) line lines ∙ ap (λ n. n + sum_by (lines_in (map call_width cs)) lines) (line_counted cs line)
    ∙ ap (λ n. width_of cs line + n) (lines_counted cs lines) ∙ sym (sum_by-cons (width_of cs) line lines)

-- one procedure more counts as many lines as a call of it becomes
counted_next : (procs : List WrittenProcedure) (k : ℕ) (p : WrittenProcedure) → CallsFit procs k p
    → widths_of (callees_of (take k procs)) ≡ map call_width (callees_of (take k procs))
    → counted_width (widths_of (callees_of (take k procs))) (made (callees_of (take k procs)) p) ≡ call_width (made (callees_of (take k procs)) p)
counted_next procs k p fit e =
    let cs = callees_of (take k procs) in
    let lines : sum_by (lines_in (widths_of cs)) p.lines ≡ length (each_from (lines_of cs p) 0 p.lines) =
    ap (λ ws. sum_by (lines_in ws) p.lines) e ∙ lines_counted cs p.lines ∙ sym (lines_length procs k p fit) in
    ap (λ n. entry_width (made cs p) + n + count_by (λ (v : Place). is_returned v.mode) (variables_in p.places)) lines

pub widths_are : (procs : List WrittenProcedure) (k : ℕ) → AllFit procs → k ≤ length procs → widths_of (callees_of (take k procs)) ≡ map call_width (callees_of (take k procs))
unfolding callees_of
widths_are procs zero fit h = refl
widths_are procs (suc k) fit h =
    let p = found procs k (omega arith) in
    let cs = callees_of (take k procs) in
    let more : callees_of (take (suc k) procs) ≡ cs ++ made cs p.0 ∷ [] = ap callees_of (take_next procs k p.0 p.1) ∙ callees_push (take k procs) p.0 in
    let before = widths_are procs k fit (omega arith) in
    ap widths_of more ∙ widths_push cs (made cs p.0) ∙ ap (λ ws. ws ++ counted_width (widths_of cs) (made cs p.0) ∷ []) before
    ∙ ap (λ n. map call_width cs ++ n ∷ []) (counted_next procs k p.0 (fit k p.0 p.1) before)
    ∙ sym (ap (map call_width) more ∙ map-append call_width cs (made cs p.0 ∷ []))
  where
    found : {A : Type 0} (xs : List A) (j : ℕ) → j < length xs → (x : A) × (slice_get xs j ≡ Some x)
    found [] j h = absurd (omega arith)
    found (x ∷ xs) zero h = (x, refl)
    found (x ∷ xs) (suc j) h = found xs j (omega arith)

-- the lines of an expansion are those that are counted
pub expanded_length : (procs : List WrittenProcedure) (k : ℕ) (p : WrittenProcedure) → AllFit procs → k ≤ length procs → slice_get procs k ≡ Some p
    → length (each_from (lines_of (callees_of (take k procs)) p) 0 p.lines) ≡ sum_by (lines_in (widths_of (callees_of (take k procs)))) p.lines
expanded_length procs k p fit h there =
    let cs = callees_of (take k procs) in
    lines_length procs k p (fit k p there) ∙ sym (ap (λ ws. sum_by (lines_in ws) p.lines) (widths_are procs k fit h) ∙ lines_counted cs p.lines)
