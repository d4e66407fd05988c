-- The places that the calls among some lines bring, the calls counted from the first line on.
use Rattle.std.proofs.Common.{◌≡◌, ℕ, suc, ◌+◌, ◌∙◌, sym, ap, refl, List, [], ◌∷◌, ◌++◌, length, take, arith, cond, append_assoc}
use Rattle.std.specs.Prelude.{Some, None, map, count_by, slice_get}
use Rattle.std.proofs.lemmas.List.{length-append}
use Rattle.std.proofs.lemmas.List.Sums.{sum_by-append, sum_by-cons}
use Rattle.il_core.specs.Procedure.{Instruction}
use Rattle.il_core.specs.declared.line.Place.{Place}
use Rattle.il_called.specs.Called.{WrittenLine, own, call, WrittenProcedure}
use Rattle.il_called.specs.Expansion.{Callee, is_call, each_from, places_of, brought}

-- what a line brings as the call of a number
abbrev pub brought_by : List Callee → ℕ → WrittenLine → List Place
brought_by cs k (own i) = []
brought_by cs k (call c arguments) = elim (slice_get cs c) [ None ↦ [] | Some it ↦ map (brought k) it.expanded.places ]

abbrev pub one_call : WrittenLine → ℕ
one_call l = cond (is_call l) 1 0

-- what lines bring behind so many calls
abbrev pub brought_from : List Callee → ℕ → List WrittenLine → List Place
brought_from cs m [] = []
brought_from cs m (l ∷ ls) = brought_by cs (m + 1) l ++ brought_from cs (m + one_call l) ls

pub calls_cons : (l : WrittenLine) (ls : List WrittenLine) → count_by is_call (l ∷ ls) ≡ one_call l + count_by is_call ls
calls_cons l ls = sum_by-cons one_call l ls

pub calls_append : (xs ys : List WrittenLine) → count_by is_call (xs ++ ys) ≡ count_by is_call xs + count_by is_call ys
calls_append xs ys = sum_by-append one_call xs ys

pub brought_append : (cs : List Callee) (m : ℕ) (xs ys : List WrittenLine)
    → brought_from cs m (xs ++ ys) ≡ brought_from cs m xs ++ brought_from cs (m + count_by is_call xs) ys
brought_append cs m [] ys = let e : m ≡ m + 0 = omega arith in ap (λ n. brought_from cs n ys) e
brought_append cs m (l ∷ xs) ys =
    let c = calls_cons l xs in
    let e : m + one_call l + count_by is_call xs ≡ m + count_by is_call (l ∷ xs) = omega (arith, c) in
    ap (λ ps. brought_by cs (m + 1) l ++ ps) (brought_append cs (m + one_call l) xs ys)
    ∙ sym (append_assoc (brought_by cs (m + 1) l) (brought_from cs (m + one_call l) xs) (brought_from cs (m + one_call l + count_by is_call xs) ys))
    ∙ ap (λ n. brought_by cs (m + 1) l ++ brought_from cs (m + one_call l) xs ++ brought_from cs n ys) e

take_front : (xs ys : List WrittenLine) → take (length xs) (xs ++ ys) ≡ xs
take_front [] ys = refl
take_front (x ∷ xs) ys = ap (λ zs. x ∷ zs) (take_front xs ys)

by_number : (cs : List Callee) (p : WrittenProcedure) (n : ℕ) (l : WrittenLine) → places_of cs p n l ≡ brought_by cs (count_by is_call (take n p.lines) + 1) l
by_number cs p n (own i) = refl
by_number cs p n (call c arguments) = refl

behind : (cs : List Callee) (p : WrittenProcedure) (front ls : List WrittenLine) → p.lines ≡ front ++ ls
    → each_from (places_of cs p) (length front) ls ≡ brought_from cs (count_by is_call front) ls
behind cs p front [] e = refl
behind cs p front (l ∷ ls) e =
    let here : take (length front) p.lines ≡ front = ap (take (length front)) e ∙ take_front front (l ∷ ls) in
    let a = length-append front (l ∷ []) in
    let size : suc (length front) ≡ length (front ++ l ∷ []) = omega (arith, a) in
    let b = calls_append front (l ∷ []) in
    let d = calls_cons l [] in
    let calls : count_by is_call (front ++ l ∷ []) ≡ count_by is_call front + one_call l = omega (arith, b, d) in
    let rest : p.lines ≡ (front ++ l ∷ []) ++ ls = e ∙ sym (append_assoc front (l ∷ []) ls) in
    ap (λ ps. ps ++ each_from (places_of cs p) (suc (length front)) ls) (by_number cs p (length front) l ∙ ap (λ ks. brought_by cs (count_by is_call ks + 1) l) here)
    ∙ ap (λ n. brought_by cs (count_by is_call front + 1) l ++ each_from (places_of cs p) n ls) size
    ∙ ap (λ ps. brought_by cs (count_by is_call front + 1) l ++ ps) (behind cs p (front ++ l ∷ []) ls rest)
    ∙ ap (λ n. brought_by cs (count_by is_call front + 1) l ++ brought_from cs n ls) calls

-- what the lines of a procedure bring in its expansion
pub all_brought : (cs : List Callee) (p : WrittenProcedure) → each_from (places_of cs p) 0 p.lines ≡ brought_from cs 0 p.lines
all_brought cs p = behind cs p [] p.lines refl

-- lines that are no calls
pub own_calls : (is : List Instruction) → count_by is_call (map own is) ≡ 0
own_calls [] = refl
own_calls (i ∷ is) = let e = calls_cons (own i) (map own is) in let h = own_calls is in e ∙ ap (λ n. 0 + n) h

pub own_brought : (cs : List Callee) (m : ℕ) (is : List Instruction) → brought_from cs m (map own is) ≡ []
own_brought cs m [] = refl
own_brought cs m (i ∷ is) = own_brought cs (m + 0) is
