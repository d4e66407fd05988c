-- The procedures of a checked text with calls, one after the other.
use Rattle.std.proofs.Common.{◌≡◌, ℕ, zero, suc, ◌+◌, ◌<◌, ◌≤◌, List, [], ◌∷◌, ◌++◌, length, map, drop, refl, sym, ap, ◌∙◌, subst, get_or, arith}
use Rattle.std.specs.Prelude.{slice_get, Some}
use Rattle.std.proofs.lemmas.List.{drop_more, drop_all}
use Rattle.std.proofs.lemmas.Option.{same_Some, slice_get-map, slice_get_read}
use Rattle.std.specs.Option.{option_map}
use Rattle.il_core.specs.Checked.{IsChecked, NamedProcedure, NamedText}
use Rattle.il_core.specs.Checked as checked
use Rattle.il_core.specs.Procedure.{Procedure}
use Rattle.il_core.specs.Text.{Text, TextProcedure, text_procedure, text_of}
use Rattle.il_called.specs.Called.{HeldText, called_of, Passed, WrittenLine, own, call, WrittenProcedure, WrittenText, procedure_of, written_of}
use Rattle.il_called.specs.CalledText.{IsCalledText, Suit, parameters_of}
use Rattle.il_called.specs.Expansion.{Callee, Expansion, procedure_in, expansion_of, callees_behind, callees_of}
use Rattle.il_core.specs.declared.line.Place.{Place}
use Rattle.il_called.specs.declared.called.CalledProc.{CalledProc}
use Rattle.il_called.specs.declared.called.CalledLine.{CalledLine}
use Rattle.il_inline.specs.declared.inlined.Inlined.{Inlined}
use Rattle.il_inline.specs.Calls.{CallFits, AllCall}
use Rattle.il_inline.specs.Fits.{AreShort}
use Rattle.il_called.specs.declared.called.CallSpan.{CallSpan}
use Rattle.il_called.specs.declared.called.Origin.{Origin}
use Rattle.il_inline.specs.Expanded.{IsExpanded, expanded_procedure}
use Rattle.il_inline.specs.Held.{callee_held, callees_held, HaveNames}
use Rattle.il_inline.proofs.Held.{held_at, held_count, held_more}
use Rattle.il_inline.proofs.Limits.{all_short}

abbrev named_with : List ℕ → Procedure → TextProcedure
named_with name body = record { name = name; body = body }

abbrev text_with : List ℕ → ℕ → List TextProcedure → Text
text_with title profile procs = record { title = title; profile = profile; procs = procs }

pub kept_left : {X : Type 0} (xs ys : List X) (n : ℕ) (x : X) → slice_get xs n ≡ Some x → slice_get (xs ++ ys) n ≡ Some x
kept_left [] ys n x e = grind arith
kept_left (y ∷ xs) ys zero x e = e
kept_left (y ∷ xs) ys (suc n) x e = kept_left xs ys n x e

pub at_last : {X : Type 0} (xs : List X) (x : X) → slice_get (xs ++ x ∷ []) (length xs) ≡ Some x
at_last [] x = refl
at_last (y ∷ xs) x = at_last xs x

pub there : {X : Type 0} (xs : List X) (n : ℕ) → n < length xs → (x : X) × (slice_get xs n ≡ Some x)
there [] n h = absurd (omega arith)
there (x ∷ xs) zero h = (x, refl)
there (x ∷ xs) (suc n) h = there xs n (omega arith)

pub behind_keeps : (before : List Callee) (ps : List WrittenProcedure) (n : ℕ) (c : Callee) → slice_get before n ≡ Some c → slice_get (callees_behind before ps) n ≡ Some c
behind_keeps before [] n c e = e
behind_keeps before (p ∷ ps) n c e =
    let it : Callee = record { written = p; expanded = expansion_of before (length before) p } in
    behind_keeps (before ++ it ∷ []) ps n c (kept_left before (it ∷ []) n c e)

-- the text's callees from the next procedure on
pub record Next (ps : List CalledProc) (xs : List Inlined) (p : CalledProc) : Type 0 where
  pub size : length xs < length ps
  pub is : slice_get ps (length xs) ≡ Some p
  pub whole : callees_behind (callees_held ps xs) (procedure_of p ∷ map procedure_of (drop (length xs + 1) ps)) ≡ callees_of (map procedure_of ps)

next_from : (ps : List CalledProc) (xs : List Inlined) (p : CalledProc) → length xs < length ps → p ≡ get_or ps (length xs) p
    → callees_behind (callees_held ps xs) (map procedure_of (drop (length xs) ps)) ≡ callees_behind (callees_held ps []) (map procedure_of ps) → Next ps xs p
unfolding callees_of
next_from ps xs p below e whole =
    let rest : map procedure_of (drop (length xs) ps) ≡ procedure_of p ∷ map procedure_of (drop (length xs + 1) ps) =
    ap (map procedure_of) (drop_more ps (length xs) p below ∙ ap (λ (q : CalledProc). q ∷ drop (length xs + 1) ps) (sym e)) in
    record {
      size = below;
      is = slice_get_read ps (length ps) (length xs) p refl below e;
      whole = ap (callees_behind (callees_held ps xs)) (sym rest) ∙ whole;
    }

pub next_of : (ps : List CalledProc) (xs : List Inlined) (k : ℕ) (p : CalledProc) → length xs ≡ k → k < length ps → p ≡ get_or ps k p
    → callees_behind (callees_held ps xs) (map procedure_of (drop k ps)) ≡ callees_behind (callees_held ps []) (map procedure_of ps) → Next ps xs p
next_of ps xs k p size below e whole = next_from ps xs p (subst (λ n. n < length ps) (sym size) below) (subst (λ n. p ≡ get_or ps n p) (sym size) e)
    (subst (λ n. callees_behind (callees_held ps xs) (map procedure_of (drop n ps)) ≡ callees_behind (callees_held ps []) (map procedure_of ps)) (sym size) whole)

-- what the next expansion is
next_there : (ps : List CalledProc) (xs : List Inlined) (p : CalledProc) → Next ps xs p
    → slice_get (callees_of (map procedure_of ps)) (length xs) ≡ Some (record { written = procedure_of p; expanded = expansion_of (callees_held ps xs) (length xs) (procedure_of p) })
next_there ps xs p next =
    let before = callees_held ps xs in
    let count : length before ≡ length xs = held_count ps xs (let s = next.size in omega arith) in
    let made : ℕ → Callee = λ n. record { written = procedure_of p; expanded = expansion_of before n (procedure_of p) } in
    let kept = behind_keeps (before ++ made (length before) ∷ []) (map procedure_of (drop (length xs + 1) ps)) (length before) (made (length before)) (at_last before (made (length before))) in
    let at : slice_get (callees_of (map procedure_of ps)) (length before) ≡ Some (made (length before)) = ap (λ (l : List Callee). slice_get l (length before)) (sym next.whole) ∙ kept in
    subst (λ n. slice_get (callees_of (map procedure_of ps)) n ≡ Some (made n)) count at

-- what was expanded before
before_there : (ps : List CalledProc) (xs : List Inlined) (p : CalledProc) (n : ℕ) (c : Callee) → Next ps xs p → slice_get (callees_held ps xs) n ≡ Some c
    → slice_get (callees_of (map procedure_of ps)) n ≡ Some c
before_there ps xs p n c next e =
    ap (λ (l : List Callee). slice_get l n) (sym next.whole)
    ∙ behind_keeps (callees_held ps xs) (procedure_of p ∷ map procedure_of (drop (length xs + 1) ps)) n c e

pub next_checked : (t : WrittenText) (ps : List CalledProc) (xs : List Inlined) (p : CalledProc) → t.procs ≡ map procedure_of ps → IsCalledText t → Next ps xs p
    → IsChecked (procedure_in (expansion_of (callees_held ps xs) (length xs) (procedure_of p)))
next_checked t ps xs p e h next = h.checked (length xs) _ (ap (λ (l : List WrittenProcedure). slice_get (callees_of l) (length xs)) e ∙ next_there ps xs p next)

pub next_short : (t : WrittenText) (ps : List CalledProc) (xs : List Inlined) (p : CalledProc) → t.procs ≡ map procedure_of ps → IsCalledText t → Next ps xs p
    → AreShort (expansion_of (callees_held ps xs) (length xs) (procedure_of p)).places
next_short t ps xs p e h next =
    all_short _ (λ place i. h.names (length xs) _ place (ap (λ (l : List WrittenProcedure). slice_get (callees_of l) (length xs)) e ∙ next_there ps xs p next) i)

pub all_call : (callees : List Callee) (lines : List WrittenLine)
    → ((n c : ℕ) (arguments : List Passed) → slice_get lines n ≡ Some (call c arguments) → CallFits callees c arguments) → AllCall callees lines
all_call callees [] h = tt
all_call callees (own i ∷ lines) h = (tt, all_call callees lines (λ n c arguments e. h (suc n) c arguments e))
all_call callees (call c arguments ∷ lines) h = (h 0 c arguments refl, all_call callees lines (λ n d others e. h (suc n) d others e))

pub next_calls : (t : WrittenText) (ps : List CalledProc) (xs : List Inlined) (p : CalledProc) → t.procs ≡ map procedure_of ps → IsCalledText t → Next ps xs p
    → AllCall (callees_held ps xs) (procedure_of p).lines
next_calls t ps xs p e h next = all_call (callees_held ps xs) (procedure_of p).lines at
  where
    written : slice_get t.procs (length xs) ≡ Some (procedure_of p)
    written = ap (λ (l : List WrittenProcedure). slice_get l (length xs)) e ∙ slice_get-map procedure_of ps (length xs) ∙ ap (option_map procedure_of) next.is

    at : (n c : ℕ) (arguments : List Passed) → slice_get (procedure_of p).lines n ≡ Some (call c arguments) → CallFits (callees_held ps xs) c arguments
    at n c arguments is =
        let fit = h.fit (length xs) (procedure_of p) written n c arguments is in
        let below : c < length xs = fit.0 in
        let small = next.size in
        let w = there ps c (omega arith) in
        let x = there xs c below in
        let held = held_at ps xs c w.0 x.0 w.1 x.1 in
        let same : fit.1.0 ≡ procedure_of w.0 =
        same_Some _ _ (sym fit.1.1 ∙ ap (λ (l : List WrittenProcedure). slice_get l c) e ∙ slice_get-map procedure_of ps c ∙ ap (option_map procedure_of) w.1) in
        let checked = h.checked c (callee_held w.0 x.0) (ap (λ (l : List WrittenProcedure). slice_get (callees_of l) c) e ∙ before_there ps xs p c (callee_held w.0 x.0) next held) in
        let some = checked.some_lines in
        record {
          callee = callee_held w.0 x.0;
          there = held;
          suits = subst (λ (q : WrittenProcedure). Suit (parameters_of q) arguments) same fit.1.2;
          lines = omega arith;
        }

-- one more is expanded
next_more : (ps : List CalledProc) (xs : List Inlined) (p : CalledProc) (x : Inlined) → Next ps xs p
    → (callee_held p x).expanded ≡ expansion_of (callees_held ps xs) (length xs) (procedure_of p)
    → callees_behind (callees_held ps (xs ++ x ∷ [])) (map procedure_of (drop (length xs + 1) ps)) ≡ callees_of (map procedure_of ps)
next_more ps xs p x next e =
    let before = callees_held ps xs in
    let rest = map procedure_of (drop (length xs + 1) ps) in
    let count : length before ≡ length xs = held_count ps xs (let s = next.size in omega arith) in
    let made : Expansion → Callee = λ it. record { written = procedure_of p; expanded = it } in
    ap (λ (l : List Callee). callees_behind l rest) (held_more ps xs p x next.is)
    ∙ ap (λ (it : Expansion). callees_behind (before ++ made it ∷ []) rest) e
    ∙ ap (λ (n : ℕ). callees_behind (before ++ made (expansion_of before n (procedure_of p)) ∷ []) rest) (sym count)
    ∙ next.whole

pub next_whole : (ps : List CalledProc) (xs more : List Inlined) (k : ℕ) (p : CalledProc) (x : Inlined) → Next ps xs p → length xs ≡ k → more ≡ xs ++ x ∷ []
    → (callee_held p x).expanded ≡ expansion_of (callees_held ps xs) (length xs) (procedure_of p)
    → callees_behind (callees_held ps more) (map procedure_of (drop (k + 1) ps)) ≡ callees_behind (callees_held ps []) (map procedure_of ps)
unfolding callees_of
next_whole ps xs more k p x next size grown e =
    ap (λ (l : List Inlined). callees_behind (callees_held ps l) (map procedure_of (drop (k + 1) ps))) grown
    ∙ ap (λ (n : ℕ). callees_behind (callees_held ps (xs ++ x ∷ [])) (map procedure_of (drop (n + 1) ps))) (sym size)
    ∙ next_more ps xs p x next e

pub all_expanded : (ps : List CalledProc) (xs : List Inlined) (k : ℕ) → length ps ≤ k
    → callees_behind (callees_held ps xs) (map procedure_of (drop k ps)) ≡ callees_behind (callees_held ps []) (map procedure_of ps) → callees_held ps xs ≡ callees_of (map procedure_of ps)
unfolding callees_of
all_expanded ps xs k h whole = ap (λ (l : List CalledProc). callees_behind (callees_held ps xs) (map procedure_of l)) (sym (drop_all k ps h)) ∙ whole

-- a procedure as its parts
abbrev pub parts_made : List ℕ → List Place → List CalledLine → WrittenProcedure
parts_made name places lines = record { name = name; places = places; lines = map written_of lines }

-- a fact on these three as they are read
pub as_read : (P : List Inlined → List Place → List CalledLine → Type 0) (x y : List Inlined) (a b : List Place) (l m : List CalledLine) → x ≡ y → a ≡ b → l ≡ m → P y b m → P x a l
as_read P x y a b l m e f g h = subst (λ z. P z a l) (sym e) (subst (λ z. P y z l) (sym f) (subst (λ z. P y b z) (sym g) h))

pub names_more : (ps : List CalledProc) (xs : List Inlined) (p : CalledProc) (x : Inlined) → slice_get ps (length xs) ≡ Some p → x.proc.name ≡ p.name → HaveNames ps xs
    → HaveNames ps (xs ++ x ∷ [])
names_more [] xs p x e n h = grind arith
names_more (q ∷ ps) [] p x e n h = (n ∙ sym (ap (λ (r : CalledProc). r.name) (same_Some _ _ e)), tt)
names_more (q ∷ ps) (y ∷ xs) p x e n h = (h.0, names_more ps xs p x e n h.1)

-- the parts of what is expanded
procs_are : (ps : List CalledProc) (xs : List Inlined) → HaveNames ps xs → map text_procedure (map (λ x. x.proc) xs) ≡ map expanded_procedure (callees_held ps xs)
procs_are ps [] h = refl
procs_are [] (x ∷ xs) h = absurd h
procs_are (p ∷ ps) (x ∷ xs) h =
    ap (λ (n : List ℕ). named_with n (checked.procedure_of x.proc) ∷ map text_procedure (map (λ y. y.proc) xs)) h.0
    ∙ ap (λ l. expanded_procedure (callee_held p x) ∷ l) (procs_are ps xs h.1)

origins_are : (ps : List CalledProc) (xs : List Inlined) → HaveNames ps xs → map (λ x. x.origins) xs ≡ map (λ it. it.expanded.origins) (callees_held ps xs)
origins_are ps [] h = refl
origins_are [] (x ∷ xs) h = absurd h
origins_are (p ∷ ps) (x ∷ xs) h = ap (λ l. x.origins ∷ l) (origins_are ps xs h.1)

spans_of_all : (ps : List CalledProc) (xs : List Inlined) → HaveNames ps xs → map (λ x. x.spans) xs ≡ map (λ it. it.expanded.spans) (callees_held ps xs)
spans_of_all ps [] h = refl
spans_of_all [] (x ∷ xs) h = absurd h
spans_of_all (p ∷ ps) (x ∷ xs) h = ap (λ l. x.spans ∷ l) (spans_of_all ps xs h.1)

pub whole_expanded : (t : HeldText) (xs ys : List Inlined) (text : NamedText) (origins : List (List Origin)) (spans : List (List CallSpan))
    → HaveNames t.procs xs → callees_held t.procs xs ≡ callees_of (map procedure_of t.procs) → ys ≡ xs
    → text ≡ record { title = t.title; profile = t.profile; procs = map (λ x. x.proc) ys } → origins ≡ map (λ x. x.origins) ys → spans ≡ map (λ x. x.spans) ys
    → IsExpanded (called_of t) (record { text = text; origins = origins; spans = spans })
whole_expanded t xs ys text origins spans names callees same e f g = record {
  text = ap text_of e ∙ ap (λ (l : List Inlined). text_with t.title t.profile (map text_procedure (map (λ x. x.proc) l))) same
      ∙ ap (text_with t.title t.profile) (procs_are t.procs xs names ∙ ap (map expanded_procedure) callees);
  origins = f ∙ ap (λ (l : List Inlined). map (λ x. x.origins) l) same ∙ origins_are t.procs xs names ∙ ap (map (λ it. it.expanded.origins)) callees;
  spans = g ∙ ap (λ (l : List Inlined). map (λ x. x.spans) l) same ∙ spans_of_all t.procs xs names ∙ ap (map (λ it. it.expanded.spans)) callees;
}

abbrev text_named : List ℕ → ℕ → List NamedProcedure → NamedText
text_named title profile procs = record { title = title; profile = profile; procs = procs }

pub named_text : (title name : List ℕ) (profile number : ℕ) (procs others : List NamedProcedure) → title ≡ name → profile ≡ number → procs ≡ others
    → text_named title profile procs ≡ text_named name number others
named_text title name profile number procs others e f g =
    ap (λ (x : List ℕ). text_named x profile procs) e ∙ ap (λ (x : ℕ). text_named name x procs) f ∙ ap (λ (x : List NamedProcedure). text_named name number x) g
