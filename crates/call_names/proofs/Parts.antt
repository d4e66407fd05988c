-- The first of the names sought among the new names of an expansion, part by part.
use Rattle.std.proofs.Common.{◌≡◌, ℕ, zero, suc, ◌+◌, ◌∙◌, sym, ap, refl, cond, Bool, true, false, ◌&&◌, ◌||◌, List, [], ◌∷◌, ◌++◌, length, take, drop, arith, nat_eq}
use Rattle.std.specs.Prelude.{Option, Some, None, map, find, filter, slice_get}
use Rattle.std.specs.Option.{option_or}
use Rattle.std.specs.Cmp.Lexicographic.{pointwise}
use Rattle.std.proofs.lemmas.List.{map-append}
use Rattle.std.proofs.lemmas.List.Folds.{find-append}
use Rattle.il_core.specs.declared.line.Place.{Place}
use Rattle.il_called.specs.Called.{WrittenProcedure}
use Rattle.il_called.specs.Expansion.{variables_in, each_from, places_of, brought_name, callees_of}
use Rattle.call_names.specs.Search.{is_among, begins_with, mark, names_under, places_at}
use Rattle.call_names.specs.Outlines.{IsOutlined, AreOutlined}
use Rattle.call_names.specs.declared.outline.Outline.{Outline}
use Rattle.call_names.specs.declared.outline.Variable.{Variable}
use Rattle.call_names.proofs.Joined.{joined}
use Rattle.call_names.proofs.Brought.{called_names, places_are, named_variables, named_copies, named_brought}

pub find_same : {A B : Type 0} (p q : B → Bool) (f : A → B) (xs : List A) → ((x : A) → p (f x) ≡ q (f x)) → find p (map f xs) ≡ find q (map f xs)
find_same p q f [] e = refl
find_same p q f (x ∷ xs) e = ap (λ b. cond b (Some (f x)) (find p (map f xs))) (e x) ∙ ap (cond (q (f x)) (Some (f x))) (find_same p q f xs e)

-- a name behind a stem is among those that begin so where it is among all
among_those : (stem rest : List ℕ) (sought : List (List ℕ)) → is_among sought (stem ++ rest) ≡ is_among (filter (begins_with stem) sought) (stem ++ rest)
among_those stem rest [] = refl
among_those stem rest (s ∷ sought) = by (begins_with stem s) refl (among_those stem rest sought)
  where
    by : (b : Bool) → begins_with stem s ≡ b → is_among sought (stem ++ rest) ≡ is_among (filter (begins_with stem) sought) (stem ++ rest)
        → (pointwise nat_eq (stem ++ rest) s || is_among sought (stem ++ rest))
        ≡ is_among (cond b (s ∷ filter (begins_with stem) sought) (filter (begins_with stem) sought)) (stem ++ rest)
    by true e more = ap (λ c. pointwise nat_eq (stem ++ rest) s || c) more
    by false e more =
        let none : pointwise nat_eq (stem ++ rest) s ≡ false = joined stem rest s ∙ ap (λ c. c && pointwise nat_eq rest (drop (length stem) s)) e in
        ap (λ c. c || is_among sought (stem ++ rest)) none ∙ more

pub variables_those : (stem : List ℕ) (sought : List (List ℕ)) (vs : List Variable)
    → find (is_among sought) (map (λ (v : Variable). stem ++ v.name) vs) ≡ find (is_among (filter (begins_with stem) sought)) (map (λ (v : Variable). stem ++ v.name) vs)
variables_those stem sought vs = find_same (is_among sought) (is_among (filter (begins_with stem) sought)) (λ (v : Variable). stem ++ v.name) vs (λ v. among_those stem v.name sought)

called_those : (before : List WrittenProcedure) (stem : List ℕ) (sought : List (List ℕ)) (j : ℕ) (cs : List ℕ)
    → find (is_among sought) (called_names before stem j cs) ≡ find (is_among (filter (begins_with stem) sought)) (called_names before stem j cs)
called_those before stem sought j [] = refl
called_those before stem sought j (c ∷ cs) =
    let those = filter (begins_with stem) sought in
    let qs = places_at before c in
    find-append (is_among sought) (names_under stem j qs) (called_names before stem (j + 1) cs)
    ∙ ap (λ o. option_or o (find (is_among sought) (called_names before stem (j + 1) cs)))
    (find_same (is_among sought) (is_among those) (λ (q : Place). stem ++ brought_name j q) qs (λ q. among_those stem (brought_name j q) sought))
    ∙ ap (option_or (find (is_among those) (names_under stem j qs))) (called_those before stem sought (j + 1) cs)
    ∙ sym (find-append (is_among those) (names_under stem j qs) (called_names before stem (j + 1) cs))

-- what is found among the variables, the places that calls brought, and the OLD copies
abbrev pub among_variables : List ℕ → ℕ → List (List ℕ) → Outline → Option (List ℕ)
among_variables front k sought o =
    let stem = front ++ mark false k in find (is_among (filter (begins_with stem) sought)) (map (λ (v : Variable). stem ++ v.name) o.variables)

abbrev pub among_called : List WrittenProcedure → List ℕ → ℕ → List (List ℕ) → Outline → Option (List ℕ)
among_called before front k sought o =
    let stem = front ++ mark false k in find (is_among (filter (begins_with stem) sought)) (called_names before stem 1 o.calls)

abbrev pub among_copies : List ℕ → ℕ → List (List ℕ) → Outline → Option (List ℕ)
among_copies front k sought o = find (is_among sought) (map (λ (v : Variable). front ++ mark true k ++ v.name) (filter (λ (v : Variable). v.copied) o.variables))

pub in_parts : (procs : List WrittenProcedure) (n : ℕ) (p : WrittenProcedure) (o : Outline) (front : List ℕ) (k : ℕ) (sought : List (List ℕ)) → slice_get procs n ≡ Some p → IsOutlined p o
    → find (is_among sought) (names_under front k (places_at procs n))
    ≡ option_or (option_or (among_variables front k sought o) (among_called (take n procs) front k sought o)) (among_copies front k sought o)
in_parts procs n p o front k sought there h =
    let stem = front ++ mark false k in
    let before = take n procs in
    let vs = variables_in p.places in
    let bs = each_from (places_of (callees_of before) p) 0 p.lines in
    let ds = drop (length vs) p.places in
    let nm = λ (q : Place). front ++ brought_name k q in
    let a : find (is_among sought) (map nm vs) ≡ among_variables front k sought o =
    ap (find (is_among sought)) (named_variables front k p.places ∙ ap (map (λ (v : Variable). stem ++ v.name)) (sym h.variables)) ∙ variables_those stem sought o.variables in
    let b : find (is_among sought) (map nm bs) ≡ among_called before front k sought o =
    ap (find (is_among sought)) (named_brought before p front k ∙ ap (called_names before stem 1) (sym h.calls)) ∙ called_those before stem sought 1 o.calls in
    let d : find (is_among sought) (map nm ds) ≡ among_copies front k sought o =
    ap (find (is_among sought)) (ap (map nm) h.copies ∙ named_copies front k vs
    ∙ ap (λ (ws : List Variable). map (λ (v : Variable). front ++ mark true k ++ v.name) (filter (λ (v : Variable). v.copied) ws)) (sym h.variables)) in
    ap (λ ps. find (is_among sought) (map nm ps)) (places_are procs n p there)
    ∙ ap (find (is_among sought)) (map-append nm (vs ++ bs) ds ∙ ap (λ ns. ns ++ map nm ds) (map-append nm vs bs))
    ∙ find-append (is_among sought) (map nm vs ++ map nm bs) (map nm ds)
    ∙ ap (λ x. option_or x (find (is_among sought) (map nm ds))) (find-append (is_among sought) (map nm vs) (map nm bs))
    ∙ ap (λ x. option_or (option_or x (find (is_among sought) (map nm bs))) (find (is_among sought) (map nm ds))) a
    ∙ ap (λ x. option_or (option_or (among_variables front k sought o) x) (find (is_among sought) (map nm ds))) b
    ∙ ap (option_or (option_or (among_variables front k sought o) (among_called before front k sought o))) d

-- nothing is found among no names
pub none_sought : (xs : List (List ℕ)) → find (is_among []) xs ≡ None
none_sought [] = refl
none_sought (x ∷ xs) = none_sought xs

get_taken : {A : Type 0} (xs : List A) (n m : ℕ) (x : A) → slice_get (take n xs) m ≡ Some x → slice_get xs m ≡ Some x
get_taken [] zero m x e = e
get_taken [] (suc n) m x e = e
get_taken (y ∷ xs) zero m x e = absurd (none m e)
  where
    none : (m : ℕ) → slice_get [] m ≡ Some x → ⊥
    none zero h = cc
    none (suc m) h = cc
get_taken (y ∷ xs) (suc n) zero x e = e
get_taken (y ∷ xs) (suc n) (suc m) x e = get_taken xs n m x e

-- the outlines of the procedures before one
pub outlined_before : (procs : List WrittenProcedure) (outlines : List Outline) (n : ℕ) → AreOutlined procs outlines → AreOutlined (take n procs) (take n outlines)
outlined_before procs outlines n h = record {
  size = length_taken outlines procs n h.size;
  each = λ m p o e f. h.each m p o (get_taken procs n m p e) (get_taken outlines n m o f);
}
  where
    length_taken : {A B : Type 0} (xs : List A) (ys : List B) (n : ℕ) → length xs ≡ length ys → length (take n xs) ≡ length (take n ys)
    length_taken xs ys zero e = refl
    length_taken [] [] (suc n) e = refl
    length_taken [] (y ∷ ys) (suc n) e = absurd (omega arith)
    length_taken (x ∷ xs) [] (suc n) e = absurd (omega arith)
    length_taken (x ∷ xs) (y ∷ ys) (suc n) e = ap suc (length_taken xs ys n (omega arith))
