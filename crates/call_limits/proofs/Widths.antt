-- How many lines and places the lines of a procedure count as.
use Rattle.std.proofs.Common.{◌≡◌, ℕ, suc, ◌+◌, ◌∙◌, sym, ap, refl, List, [], ◌∷◌, ◌++◌, length, arith}
use Rattle.std.specs.Prelude.{Option, Some, None, map, sum_by, slice_get}
use Rattle.std.proofs.lemmas.List.{length-append, length-map}
use Rattle.std.proofs.lemmas.List.Sums.{sum_by-cons}
use Rattle.il_core.specs.Procedure.{Instruction}
use Rattle.il_core.specs.declared.line.Place.{Place}
use Rattle.il_called.specs.Called.{WrittenLine, own, call, WrittenProcedure}
use Rattle.il_called.specs.Expansion.{Callee, brings, each_from, places_of, brought, call_number}
use Rattle.call_rules.specs.Limits.{lines_in, counted_width, widths_behind, widths_of}

-- the length of what a list becomes
pub length_each : {X Y : Type 0} (f : ℕ → X → List Y) (g : X → ℕ) (k : ℕ) (xs : List X) → ((n : ℕ) (x : X) → length (f n x) ≡ g x)
    → length (each_from f k xs) ≡ sum_by g xs
length_each f g k [] each = refl
length_each f g k (x ∷ xs) each =
    length-append (f k x) (each_from f (suc k) xs) ∙ ap (λ n. n + length (each_from f (suc k) xs)) (each k x)
    ∙ ap (λ n. g x + n) (length_each f g (suc k) xs each) ∙ sym (sum_by-cons g x xs)

pub length_called : (k : ℕ) (o : Option Callee) → length {A = Place} (elim o [ None ↦ [] | Some it ↦ map (brought k) it.expanded.places ])
    ≡ elim o [ None ↦ 0 | Some it ↦ length it.expanded.places ]
length_called k None = refl
length_called k (Some it) = length-map it.expanded.places (brought k)

pub length_brought : (callees : List Callee) (p : WrittenProcedure) (n : ℕ) (line : WrittenLine) → length (places_of callees p n line) ≡ brings callees line
length_brought callees p n (own i) = refl
length_brought callees p n (call c arguments) = length_called (call_number p.lines n) (slice_get callees c)

pub length_places : (callees : List Callee) (p : WrittenProcedure) → length (each_from (places_of callees p) 0 p.lines) ≡ sum_by (brings callees) p.lines
length_places callees p = length_each (places_of callees p) (brings callees) 0 p.lines (length_brought callees p)

-- lines that are no calls
pub own_widths : (widths : List ℕ) (is : List Instruction) → sum_by (lines_in widths) (map own is) ≡ length is
own_widths widths [] = refl
own_widths widths (i ∷ is) =
    let e : 1 + length is ≡ suc (length is) = omega arith in
    sum_by-cons (lines_in widths) (own i) (map own is) ∙ ap (λ n. 1 + n) (own_widths widths is) ∙ e

pub own_brings : (callees : List Callee) (is : List Instruction) → sum_by (brings callees) (map own is) ≡ 0
own_brings callees [] = refl
own_brings callees (i ∷ is) = sum_by-cons (brings callees) (own i) (map own is) ∙ ap (λ n. 0 + n) (own_brings callees is)

-- the widths of procedures with one more behind them
pub widths_more : (before : List ℕ) (cs : List Callee) (c : Callee)
    → widths_behind before (cs ++ c ∷ []) ≡ widths_behind before cs ++ counted_width (widths_behind before cs) c ∷ []
widths_more before [] c = refl
widths_more before (d ∷ cs) c = widths_more (before ++ counted_width before d ∷ []) cs c

pub widths_push : (cs : List Callee) (c : Callee) → widths_of (cs ++ c ∷ []) ≡ widths_of cs ++ counted_width (widths_of cs) c ∷ []
widths_push cs c = widths_more [] cs c
