-- Lines without a call are their own expansion: they keep their places and their numbers.
use Rattle.std.proofs.Common.{◌≡◌, ℕ, zero, suc, ◌+◌, ◌<◌, ◌≤◌, ◌∙◌, sym, ap, refl, Bool, true, false, List, [], ◌∷◌, ◌++◌, length, take, drop, arith, append-nil, nat_lt, if◌then◌else◌}
use Rattle.std.specs.Prelude.{Some, map, sum_by, slice_get}
use Rattle.std.proofs.lemmas.List.Sums.{sum_by-cons}
use Rattle.std.proofs.lemmas.Option.{same_Some}
use Rattle.il_core.specs.Checked.{FitsAt}
use Rattle.il_core.specs.Procedure.{Procedure, Instruction, if_true, otherwise, end_loop, exit, exit_when, goto, return}
use Rattle.il_core.specs.declared.line.Place.{Place}
use Rattle.il_called.specs.Called.{WrittenLine, own, WrittenProcedure}
use Rattle.il_called.specs.Expansion.{Callee, renumbered, moved, variables_in, width_of, start_of, brings, own_place, each_from, lines_of, origin_at, origins_of, spans_of, places_of, expansion_of, procedure_in}
use Rattle.il_called.specs.declared.called.Origin.{Origin}
use Rattle.il_runs.proofs.Renumber.{moved_itself}
use Rattle.call_limits.proofs.Widths.{own_brings}

abbrev pub with_lines : List ℕ → List Place → List WrittenLine → WrittenProcedure
with_lines name places lines = record { name = name; places = places; lines = lines }

-- a procedure whose lines are all its own
abbrev pub of_own : List ℕ → List Place → List Instruction → WrittenProcedure
of_own name places is = with_lines name places (map own is)

no_places : (cs : List Callee) (p : WrittenProcedure) (k : ℕ) (is : List Instruction) → each_from (places_of cs p) k (map own is) ≡ []
no_places cs p k [] = refl
no_places cs p k (i ∷ is) = no_places cs p (suc k) is

no_spans : (cs : List Callee) (p : WrittenProcedure) (k : ℕ) (is : List Instruction) → each_from (spans_of cs p) k (map own is) ≡ []
no_spans cs p k [] = refl
no_spans cs p k (i ∷ is) = no_spans cs p (suc k) is

all_moved : (cs : List Callee) (p : WrittenProcedure) (k : ℕ) (is : List Instruction)
    → each_from (lines_of cs p) k (map own is) ≡ map (moved (own_place cs p) (start_of cs p.lines)) is
all_moved cs p k [] = refl
all_moved cs p k (i ∷ is) = ap (λ js. moved (own_place cs p) (start_of cs p.lines) i ∷ js) (all_moved cs p (suc k) is)

origin_own : (cs : List Callee) (number k : ℕ) (is : List Instruction) (j : ℕ) (o : Origin) → slice_get (each_from (origins_of cs number) k (map own is)) j ≡ Some o
    → o ≡ origin_at number (k + j)
origin_own cs number k [] j o e = grind arith
origin_own cs number k (i ∷ is) zero o e = let n : k ≡ k + 0 = omega arith in sym (same_Some _ _ e) ∙ ap (origin_at number) n
origin_own cs number k (i ∷ is) (suc j) o e = let n : suc k + j ≡ k + suc j = omega arith in origin_own cs number (suc k) is j o e ∙ ap (origin_at number) n

-- each line begins at its own number
start_own : (cs : List Callee) (is : List Instruction) (q : ℕ) → q ≤ length is → start_of cs (map own is) q ≡ q
start_own cs is zero h = refl
start_own cs [] (suc q) h = absurd (omega (arith, h))
start_own cs (i ∷ is) (suc q) h =
    let rest = start_own cs is q (omega (arith, h)) in
    let more : 1 + q ≡ suc q = omega arith in
    sum_by-cons (width_of cs) (own i) (take q (map own is)) ∙ ap (λ n. 1 + n) rest ∙ more

-- each place keeps its number
place_own : (cs : List Callee) (name : List ℕ) (places : List Place) (is : List Instruction) (k : ℕ) → own_place cs (of_own name places is) k ≡ k
place_own cs name places is k = by (nat_lt k (length (variables_in places))) (own_brings cs is)
  where
    by : (b : Bool) → sum_by (brings cs) (map own is) ≡ 0 → (if b then k else k + sum_by (brings cs) (map own is)) ≡ k
    by true none = refl
    by false none = omega (arith, none)

-- a line that goes to lines that keep their numbers
moved_here : (f line : ℕ → ℕ) (places : List Place) (count pc : ℕ) (i : Instruction) → ((k : ℕ) → f k ≡ k) → ((q : ℕ) → q < count → line q ≡ q)
    → FitsAt places count pc i → moved f line i ≡ i
moved_here f line places count pc (if_true e q) s t h = ap (if_true (renumbered f e)) (t q h.1.inside) ∙ moved_itself f (λ n. n) s (λ n. refl) (if_true e q)
moved_here f line places count pc (otherwise q) s t h = ap otherwise (t q h.inside)
moved_here f line places count pc (end_loop q) s t h = ap end_loop (t q h.inside)
moved_here f line places count pc (exit q) s t h = ap exit (t q h.inside)
moved_here f line places count pc (exit_when e q) s t h = ap (exit_when (renumbered f e)) (t q h.1.inside) ∙ moved_itself f (λ n. n) s (λ n. refl) (exit_when e q)
moved_here f line places count pc (goto q) s t h = ap goto (t q h.inside)
moved_here f line places count pc (return q) s t h = ap return (t q h.1.inside)
moved_here f line places count pc i s t h = moved_itself f (λ n. n) s (λ n. refl) i

map_itself : (g : Instruction → Instruction) (is : List Instruction) → ((j : ℕ) (i : Instruction) → slice_get is j ≡ Some i → g i ≡ i) → map g is ≡ is
map_itself g [] h = refl
map_itself g (i ∷ is) h = ap (λ j. j ∷ map g is) (h 0 i refl) ∙ ap (λ js. i ∷ js) (map_itself g is (λ j x e. h (suc j) x e))

abbrev procedure_with : List Place → List Instruction → Procedure
procedure_with places lines = record { places = places; lines = lines }

-- lines that fit are their own expansion
pub expanded_own : (cs : List Callee) (number : ℕ) (name : List ℕ) (places : List Place) (is : List Instruction)
    → variables_in places ++ drop (length (variables_in places)) places ≡ places → ((j : ℕ) (i : Instruction) → slice_get is j ≡ Some i → FitsAt places (length is) j i)
    → procedure_in (expansion_of cs number (of_own name places is)) ≡ record { places = places; lines = is }
expanded_own cs number name places is parts fit =
    let p = of_own name places is in
    let vs = variables_in places in
    let rest = drop (length (variables_in places)) places in
    let there : vs ++ each_from (places_of cs p) 0 (map own is) ++ rest ≡ places =
    ap (λ ps. vs ++ ps ++ rest) (no_places cs p 0 is) ∙ ap (λ ps. ps ++ rest) (append-nil vs) ∙ parts in
    let same : each_from (lines_of cs p) 0 (map own is) ≡ is =
    all_moved cs p 0 is
    ∙ map_itself (moved (own_place cs p) (start_of cs p.lines)) is
    (λ j i e. moved_here (own_place cs p) (start_of cs p.lines) places (length is) j i (place_own cs name places is) (λ q h. start_own cs is q (omega (arith, h))) (fit j i e)) in
    ap (λ ps. procedure_with ps (each_from (lines_of cs p) 0 (map own is))) there ∙ ap (procedure_with places) same

-- an expansion in which no lines stand for a call, and each line comes from itself
pub record IsPlain (k : ℕ) (c : Callee) : Type 0 where
  pub spans : c.expanded.spans ≡ []
  pub origins : (n : ℕ) (o : Origin) → slice_get c.expanded.origins n ≡ Some o → o ≡ origin_at k n

pub plain_own : (cs : List Callee) (number : ℕ) (name : List ℕ) (places : List Place) (is : List Instruction)
    → IsPlain number (record { written = of_own name places is; expanded = expansion_of cs number (of_own name places is) })
plain_own cs number name places is = record {
  spans = no_spans cs (of_own name places is) 0 is;
  origins = λ n o e. let zeros : 0 + n ≡ n = omega arith in origin_own cs number 0 is n o e ∙ ap (origin_at number) zeros;
}
