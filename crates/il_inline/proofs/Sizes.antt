-- How many lines and places a procedure's lines become.
use Rattle.std.proofs.Common.{◌≡◌, ℕ, suc, ◌+◌, ◌-◌, ◌≤◌, cond, List, [], ◌∷◌, length, map, refl, sym, ap, ◌∙◌, subst, arith}
use Rattle.std.specs.Prelude.{filter, count_by, sum_by, slice_get, Some, None, Option}
use Rattle.std.proofs.lemmas.List.{length-append, length-map}
use Rattle.std.proofs.lemmas.List.Sums.{sum_by-cons}
use Rattle.il_core.specs.Procedure.{Instruction}
use Rattle.il_core.specs.Run.{inout_from}
use Rattle.il_core.specs.declared.line.Place.{Place}
use Rattle.il_core.specs.declared.statement.Mode.{Mode}
use Rattle.il_core.specs.declared.statement.Mode.TheVariants.{Input, InOut, Output, Local}
use Rattle.il_called.specs.Called.{Passed, value, variable_of, WrittenLine, own, call, WrittenProcedure}
use Rattle.il_called.specs.CalledText.{Suit, parameters_of}
use Rattle.il_called.specs.Expansion.{Callee, variables_in, is_parameter, is_returned, entered, copied, back_to, handed_back, left_behind, call_lines, call_width, width_of, brings, each_from, lines_of, places_of, own_place, base_of, start_of, brought, call_number}
use Rattle.il_inline.proofs.Held.{width_held}
use Rattle.il_inline.specs.Calls.{LineCalls, AllCall}

pub length_entered : (places : List Place) (place : ℕ → ℕ) (k : ℕ) (vs : List Place) (arguments : List Passed) → length (entered places place k vs arguments) ≡ length vs
length_entered places place k [] arguments = refl
length_entered places place k (v ∷ vs) arguments = ap suc (length_entered places place (suc k) vs (left_behind v.mode arguments))

pub length_copied : (places : List Place) (base k : ℕ) (ns : List ℕ) → length (copied places base k ns) ≡ length ns
length_copied places base k [] = refl
length_copied places base k (n ∷ ns) = ap suc (length_copied places base (suc k) ns)

-- one line for each parameter that is handed back
pub length_handed : (place : ℕ → ℕ) (k : ℕ) (vs : List Place) (arguments : List Passed) → Suit (filter (λ v. is_parameter v.mode) vs) arguments
    → length (handed_back place k vs arguments) ≡ count_by (λ v. is_returned v.mode) vs
length_handed place k [] arguments h = refl
length_handed place k (v ∷ vs) arguments h =
    length-append (back_to place k v arguments) (handed_back place (suc k) vs (left_behind v.mode arguments))
    ∙ by (λ given g. length_handed place (suc k) vs given g) v.mode arguments h
    ∙ sym (sum_by-cons (λ (w : Place). cond (is_returned w.mode) 1 0) v vs)
  where
    by : ((given : List Passed) → Suit (filter (λ w. is_parameter w.mode) vs) given → length (handed_back place (suc k) vs given) ≡ count_by (λ w. is_returned w.mode) vs)
        → (m : Mode) (given : List Passed) → Suit (filter (λ w. is_parameter w.mode) (record v { mode = m } ∷ vs)) given
        → length (back_to place k (record v { mode = m }) given) + length (handed_back place (suc k) vs (left_behind m given))
        ≡ cond (is_returned m) 1 0 + count_by (λ w. is_returned w.mode) vs
    by rest Input [] g = absurd g
    by rest Input (value x ∷ more) g = ap (λ n. 0 + n) (rest more g.1)
    by rest Input (variable_of p ∷ more) g = absurd g.0
    by rest InOut [] g = absurd g
    by rest InOut (value x ∷ more) g = absurd g.0
    by rest InOut (variable_of p ∷ more) g = ap (λ n. 1 + n) (rest more g.1)
    by rest Output [] g = absurd g
    by rest Output (value x ∷ more) g = absurd g.0
    by rest Output (variable_of p ∷ more) g = ap (λ n. 1 + n) (rest more g.1)
    by rest Local [] g = ap (λ n. 0 + n) (rest [] g)
    by rest Local (value x ∷ more) g = ap (λ n. 0 + n) (rest (value x ∷ more) g)
    by rest Local (variable_of p ∷ more) g = ap (λ n. 0 + n) (rest (variable_of p ∷ more) g)

pub length_call : (places : List Place) (place : ℕ → ℕ) (base first : ℕ) (callee : Callee) (arguments : List Passed) → Suit (parameters_of callee.written) arguments
    → length (call_lines places place base first callee arguments) ≡ call_width callee
length_call places place base first callee arguments h =
    let vs = variables_in callee.written.places in
    let inouts = inout_from 0 callee.written.places in
    let e : length (entered places place base vs arguments) ≡ length vs = length_entered places place base vs arguments in
    let c : length (copied callee.written.places base (base + (length callee.expanded.places - length inouts)) inouts) ≡ length inouts = length_copied _ _ _ inouts in
    let b : length (handed_back place base vs arguments) ≡ count_by (λ v. is_returned v.mode) vs = length_handed place base vs arguments h in
    simp (length-append, length-map, e, c, b)

-- the length of what a list becomes
pub length_each : {X Y : Type 0} (f : ℕ → X → List Y) (g : X → ℕ) (P : X → Type 0) (all : List X → Type 0) (k : ℕ) (xs : List X)
    → ((x : X) (ys : List X) → all (x ∷ ys) → P x × all ys) → ((n : ℕ) (x : X) → P x → length (f n x) ≡ g x) → all xs → length (each_from f k xs) ≡ sum_by g xs
length_each f g P all k [] parts each h = refl
length_each f g P all k (x ∷ xs) parts each h =
    let p = parts x xs h in
    let first : length (f k x) ≡ g x = each k x p.0 in
    let rest : length (each_from f (suc k) xs) ≡ sum_by g xs = length_each f g P all (suc k) xs parts each p.1 in
    length-append (f k x) (each_from f (suc k) xs) ∙ ap (λ n. n + length (each_from f (suc k) xs)) first ∙ ap (λ n. g x + n) rest ∙ sym (sum_by-cons g x xs)

pub length_line : (callees : List Callee) (p : WrittenProcedure) (n : ℕ) (line : WrittenLine) → LineCalls callees line → length (lines_of callees p n line) ≡ width_of callees line
length_line callees p n (own i) h = refl
length_line callees p n (call c arguments) h =
    ap (λ (o : Option Callee). length {A = Instruction} (elim o [ None ↦ [] | Some it ↦ call_lines p.places (own_place callees p) (base_of callees p n) (start_of callees p.lines n) it arguments ])) h.there
    ∙ length_call p.places (own_place callees p) (base_of callees p n) (start_of callees p.lines n) h.callee arguments h.suits
    ∙ sym (width_held callees c arguments h.callee h.there)

pub length_lines : (callees : List Callee) (p : WrittenProcedure) → AllCall callees p.lines → length (each_from (lines_of callees p) 0 p.lines) ≡ sum_by (width_of callees) p.lines
length_lines callees p h = length_each (lines_of callees p) (width_of callees) (LineCalls callees) (AllCall callees) 0 p.lines (λ x ys all. all) (length_line callees p) h

length_of_call : (k : ℕ) (o : Option Callee) → length {A = Place} (elim o [ None ↦ [] | Some it ↦ map (brought k) it.expanded.places ]) ≡ elim o [ None ↦ 0 | Some it ↦ length it.expanded.places ]
length_of_call k None = refl
length_of_call k (Some it) = length-map it.expanded.places (brought k)

pub length_brought : (callees : List Callee) (p : WrittenProcedure) (n : ℕ) (line : WrittenLine) → Unit {0} → length (places_of callees p n line) ≡ brings callees line
length_brought callees p n (own i) h = refl
length_brought callees p n (call c arguments) h = length_of_call (call_number p.lines n) (slice_get callees c)

pub length_places : (callees : List Callee) (p : WrittenProcedure) → length (each_from (places_of callees p) 0 p.lines) ≡ sum_by (brings callees) p.lines
length_places callees p = length_each (places_of callees p) (brings callees) (λ x. Unit {0}) (λ xs. Unit {0}) 0 p.lines (λ x ys u. (tt, tt)) (length_brought callees p) tt

-- each line becomes one at least
pub wide : (callees : List Callee) (line : WrittenLine) → LineCalls callees line → 1 ≤ width_of callees line
wide callees (own i) h = omega arith
wide callees (call c arguments) h = subst (λ k. 1 ≤ k) (sym (width_held callees c arguments h.callee h.there)) (let l = h.lines in omega arith)

pub lines_within : (callees : List Callee) (lines : List WrittenLine) → AllCall callees lines → length lines ≤ sum_by (width_of callees) lines
lines_within callees [] h = omega arith
lines_within callees (line ∷ lines) h =
    let w = wide callees line h.0 in
    let r = lines_within callees lines h.1 in
    let s = sum_by-cons (width_of callees) line lines in
    omega arith
