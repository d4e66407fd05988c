-- A procedure has no more lines and places than its expansion.
use Rattle.std.proofs.Common.{◌≡◌, refl, sym, ap, ◌∙◌, subst, ℕ, zero, suc, ◌+◌, ◌≤◌, Option, Some, None, List, [], ◌∷◌, ◌++◌, length, drop, take, slice_get, arith}
use Rattle.std.proofs.lemmas.List.{length-append, length-drop, length-map}
use Rattle.std.proofs.lemmas.Option.{same_Some}
use Rattle.il_core.specs.Procedure.{Instruction}
use Rattle.il_called.specs.Called.{Passed, WrittenLine, own, call, WrittenProcedure}
use Rattle.il_called.specs.Expansion.{Callee, variables_in, inlined, entry_of, body_of, exit_of, entry_width, call_lines, start_of, base_of, own_place, each_from, lines_of, places_of, expansion_of, callees_behind, callees_of}
use Rattle.il_inline.proofs.Known.{made}
use Rattle.il_inline.proofs.Texts.{at_last, behind_keeps}
use Rattle.call_checks.specs.Laws.{BeginsOwn, CallsEarlier}
use Rattle.call_checks.specs.WellFormed.{KeepsLimits}
use Rattle.call_checks.proofs.Earlier.{written_there, taken}

-- the callees of a text are the expansions over those before them
expanded_behind : (before : List Callee) (ps : List WrittenProcedure) (k : ℕ) (p : WrittenProcedure) → slice_get ps k ≡ Some p
    → slice_get (callees_behind before ps) (length before + k) ≡ Some (made (callees_behind before (take k ps)) (length before + k) p)
expanded_behind before [] k p e = grind arith
expanded_behind before (q ∷ ps) zero p e =
    let it = made before (length before) q in
    let n : length before ≡ length before + 0 = omega arith in
    subst (λ m. slice_get (callees_behind before (q ∷ ps)) m ≡ Some (made before m p)) n
    (behind_keeps (before ++ it ∷ []) ps (length before) it (at_last before it) ∙ ap (λ (r : WrittenProcedure). Some (made before (length before) r)) (same_Some _ _ e))
expanded_behind before (q ∷ ps) (suc k) p e =
    let it = made before (length before) q in
    let l = length-append before (it ∷ []) in
    let n : length (before ++ it ∷ []) + k ≡ length before + suc k = omega arith in
    subst (λ m. slice_get (callees_behind (before ++ it ∷ []) ps) m ≡ Some (made (callees_behind (before ++ it ∷ []) (take k ps)) m p)) n
    (expanded_behind (before ++ it ∷ []) ps k p e)

pub expanded_at : (procs : List WrittenProcedure) (k : ℕ) (p : WrittenProcedure) → slice_get procs k ≡ Some p
    → slice_get (callees_of procs) k ≡ Some (made (callees_of (take k procs)) k p)
unfolding callees_of
expanded_at procs k p e =
    let n : 0 + k ≡ k = omega arith in
    subst (λ m. slice_get (callees_behind [] procs) m ≡ Some (made (callees_behind [] (take k procs)) m p)) n (expanded_behind [] procs k p e)

-- an expansion has a line where its procedure begins with an own one
some_from : (callees : List Callee) (p : WrittenProcedure) (k : ℕ) (lines : List WrittenLine) (i : Instruction) → slice_get lines 0 ≡ Some (own i)
    → 1 ≤ length (each_from (lines_of callees p) k lines)
some_from callees p k [] i e = grind arith
some_from callees p k (line ∷ lines) i e =
    let one : length (lines_of callees p k line) ≡ 1 = ap (λ x. length (lines_of callees p k x)) (same_Some _ _ e) in
    let l = length-append (lines_of callees p k line) (each_from (lines_of callees p) (suc k) lines) in
    omega arith

-- a call of a procedure with a line becomes a line at least
abbrev pub IsThere : List Callee → List WrittenLine → Type 0
IsThere callees lines = (n c : ℕ) (arguments : List Passed) → slice_get lines n ≡ Some (call c arguments) → (y : Callee) × (slice_get callees c ≡ Some y) × (1 ≤ length y.expanded.lines)

call_some : (callees : List Callee) (p : WrittenProcedure) (n c : ℕ) (arguments : List Passed) (y : Callee) → slice_get callees c ≡ Some y → 1 ≤ length y.expanded.lines
    → 1 ≤ length (lines_of callees p n (call c arguments))
call_some callees p n c arguments y e h = subst (λ m. 1 ≤ m) (sym is) long
  where
    entry : List Instruction
    entry = entry_of p.places (own_place callees p) (base_of callees p n) y arguments

    body : List Instruction
    body = body_of (base_of callees p n) (start_of callees p.lines n + entry_width y) y

    back : List Instruction
    back = exit_of (own_place callees p) (base_of callees p n) y arguments

    is : length (lines_of callees p n (call c arguments)) ≡ length (entry ++ body ++ back)
    is = ap (λ (o : Option Callee). length {A = Instruction} (elim o [
      | None ↦ []
      | Some it ↦ call_lines p.places (own_place callees p) (base_of callees p n) (start_of callees p.lines n) it arguments
    ])) e

    long : 1 ≤ length (entry ++ body ++ back)
    long =
        let a = length-append (entry ++ body) back in
        let b = length-append entry body in
        let m : length body ≡ length y.expanded.lines =
        length-map y.expanded.lines (inlined (λ q. base_of callees p n + q) (λ l. (start_of callees p.lines n + entry_width y) + l)) in
        omega arith

fewer_from : (callees : List Callee) (p : WrittenProcedure) (k : ℕ) (lines : List WrittenLine) → IsThere callees lines → length lines ≤ length (each_from (lines_of callees p) k lines)
fewer_from callees p k [] there = omega arith
fewer_from callees p k (own i ∷ lines) there =
    let r = fewer_from callees p (suc k) lines (λ n c arguments e. there (suc n) c arguments e) in
    let l = length-append (lines_of callees p k (own i)) (each_from (lines_of callees p) (suc k) lines) in
    omega arith
fewer_from callees p k (call c arguments ∷ lines) there =
    let r = fewer_from callees p (suc k) lines (λ n d given e. there (suc n) d given e) in
    let l = length-append (lines_of callees p k (call c arguments)) (each_from (lines_of callees p) (suc k) lines) in
    let y = there 0 c arguments refl in
    let s = call_some callees p k c arguments y.0 y.1 y.2 in
    omega arith

fewer_places : (callees : List Callee) (number : ℕ) (p : WrittenProcedure) → length p.places ≤ length (expansion_of callees number p).places
fewer_places callees number p =
    let vs = variables_in p.places in
    let middle = each_from (places_of callees p) 0 p.lines in
    let a = length-append (vs ++ middle) (drop (length vs) p.places) in
    let b = length-append vs middle in
    let c = length-drop (length vs) p.places in
    omega arith

-- each callee of a text whose procedures begin with an own line has a line
pub callees_some : (procs : List WrittenProcedure) → ((k : ℕ) (p : WrittenProcedure) → slice_get procs k ≡ Some p → BeginsOwn p) → (c : ℕ) (y : Callee)
    → slice_get (callees_of procs) c ≡ Some y → 1 ≤ length y.expanded.lines
callees_some procs begins c y e =
    let written = written_there procs c y e in
    let first = begins c y.written written in
    subst (λ (z : Callee). 1 ≤ length z.expanded.lines) (same_Some _ _ (sym (expanded_at procs c y.written written) ∙ e))
    (some_from (callees_of (take c procs)) y.written 0 y.written.lines first.0 first.1)

-- so a procedure keeps within the limits where its expansion does
pub few_written : (procs : List WrittenProcedure) → ((k : ℕ) (p : WrittenProcedure) → slice_get procs k ≡ Some p → BeginsOwn p)
    → ((k : ℕ) (y : Callee) → slice_get (callees_of procs) k ≡ Some y → KeepsLimits y) → (k : ℕ) (p : WrittenProcedure) → slice_get procs k ≡ Some p
    → CallsEarlier (callees_of (take k procs)) p → (length p.lines ≤ 1000) × (length p.places ≤ 64)
few_written procs begins limits k p e there =
    let kept = limits k (made (callees_of (take k procs)) k p) (expanded_at procs k p e) in
    let lines = fewer_from (callees_of (take k procs)) p 0 p.lines (λ n c arguments at. let y = there n c arguments at in
    (y.0, y.1, callees_some (take k procs) (λ j q h. begins j q (taken k procs j q h)) c y.0 y.1)) in
    let places = fewer_places (callees_of (take k procs)) k p in
    let a = kept.few_lines in
    let b = kept.few_places in
    (omega arith, omega arith)
