-- The places of an expansion, part by part.
use Rattle.std.proofs.Common.{◌≡◌, ℕ, zero, suc, ◌+◌, ◌∙◌, sym, ap, refl, cond, Bool, true, false, not, List, [], ◌∷◌, ◌++◌, length, take, drop, arith, append_assoc}
use Rattle.std.specs.Prelude.{Option, Some, None, map, filter, slice_get, count_by, sum_by}
use Rattle.std.specs.List.{flat_map}
use Rattle.std.proofs.lemmas.List.{length-append, map-append}
use Rattle.std.proofs.lemmas.List.Sums.{sum_by-append}
use Rattle.std.proofs.lemmas.Option.{same_Some}
use Rattle.il_core.specs.Checked.{old_copy, is_copied}
use Rattle.il_core.specs.declared.line.Place.{Place}
use Rattle.il_called.specs.Called.{WrittenLine, own, call, WrittenProcedure}
use Rattle.il_called.specs.Expansion.{Callee, variables_in, each_from, places_of, brought, brought_name, is_call, call_number, expansion_of, callees_behind, callees_of}
use Rattle.call_names.specs.Search.{mark, names_under, places_at}
use Rattle.call_names.specs.Outlines.{summary, callee_in}
use Rattle.call_names.specs.declared.outline.Variable.{Variable}

abbrev pub made : List Callee → WrittenProcedure → Callee
made before p = record { written = p; expanded = expansion_of before (length before) p }

kept_left : {X : Type 0} (xs ys : List X) (n : ℕ) (x : X) → slice_get xs n ≡ Some x → slice_get (xs ++ ys) n ≡ Some x
kept_left [] ys n x e = grind arith
kept_left (y ∷ xs) ys zero x e = e
kept_left (y ∷ xs) ys (suc n) x e = kept_left xs ys n x e

at_last : {X : Type 0} (xs : List X) (x : X) → slice_get (xs ++ x ∷ []) (length xs) ≡ Some x
at_last [] x = refl
at_last (y ∷ xs) x = at_last xs x

behind_keeps : (before : List Callee) (ps : List WrittenProcedure) (n : ℕ) (c : Callee) → slice_get before n ≡ Some c → slice_get (callees_behind before ps) n ≡ Some c
behind_keeps before [] n c e = e
behind_keeps before (p ∷ ps) n c e = behind_keeps (before ++ made before p ∷ []) ps n c (kept_left before (made before p ∷ []) n c e)

-- the procedure of a number stands behind those before it
behind_at : (acc : List Callee) (ps : List WrittenProcedure) (k : ℕ) (p : WrittenProcedure) → slice_get ps k ≡ Some p
    → slice_get (callees_behind acc ps) (length acc + k) ≡ Some (made (callees_behind acc (take k ps)) p)
behind_at acc [] k p e = grind arith
behind_at acc (q ∷ ps) zero p e =
    let n : length acc + 0 ≡ length acc = omega arith in
    ap (slice_get (callees_behind acc (q ∷ ps))) n ∙ behind_keeps (acc ++ made acc q ∷ []) ps (length acc) (made acc q) (at_last acc (made acc q))
    ∙ ap (λ (r : WrittenProcedure). Some (made acc r)) (same_Some _ _ e)
behind_at acc (q ∷ ps) (suc k) p e =
    let l = length-append acc (made acc q ∷ []) in
    let n : length acc + suc k ≡ length (acc ++ made acc q ∷ []) + k = omega arith in
    ap (slice_get (callees_behind acc (q ∷ ps))) n ∙ behind_at (acc ++ made acc q ∷ []) ps k p e

callee_at : (procs : List WrittenProcedure) (k : ℕ) (p : WrittenProcedure) → slice_get procs k ≡ Some p
    → slice_get (callees_of procs) k ≡ Some (made (callees_of (take k procs)) p)
unfolding callees_of
callee_at procs k p e = let n : k ≡ 0 + k = omega arith in ap (slice_get (callees_behind [] procs)) n ∙ behind_at [] procs k p e

none_behind : (acc : List Callee) (ps : List WrittenProcedure) (k : ℕ) → slice_get ps k ≡ None → slice_get (callees_behind acc ps) (length acc + k) ≡ None
none_behind acc [] k e = past acc k
  where
    past : {X : Type 0} (xs : List X) (k : ℕ) → slice_get xs (length xs + k) ≡ None
    past [] k = refl
    past (x ∷ xs) k = let n : suc (length xs) + k ≡ suc (length xs + k) = omega arith in ap (slice_get (x ∷ xs)) n ∙ past xs k
none_behind acc (q ∷ ps) zero e = absurd (cc)
none_behind acc (q ∷ ps) (suc k) e =
    let l = length-append acc (made acc q ∷ []) in
    let n : length acc + suc k ≡ length (acc ++ made acc q ∷ []) + k = omega arith in
    ap (slice_get (callees_behind acc (q ∷ ps))) n ∙ none_behind (acc ++ made acc q ∷ []) ps k e

-- a procedure that is not there has no places
pub no_places : (procs : List WrittenProcedure) (k : ℕ) → slice_get procs k ≡ None → places_at procs k ≡ []
unfolding callees_of
no_places procs k e =
    let n : k ≡ 0 + k = omega arith in
    ap (λ (o : Option Callee). elim o [ None ↦ [] | Some it ↦ it.expanded.places ]) (ap (slice_get (callees_behind [] procs)) n ∙ none_behind [] procs k e)

-- the places of a procedure with calls
pub places_are : (procs : List WrittenProcedure) (k : ℕ) (p : WrittenProcedure) → slice_get procs k ≡ Some p
    → places_at procs k ≡ variables_in p.places ++ each_from (places_of (callees_of (take k procs)) p) 0 p.lines ++ drop (length (variables_in p.places)) p.places
places_are procs k p e = ap (λ (o : Option Callee). elim o [ None ↦ [] | Some it ↦ it.expanded.places ]) (callee_at procs k p e)

-- the new names of variables
pub named_variables : (front : List ℕ) (k : ℕ) (places : List Place)
    → names_under front k (variables_in places) ≡ map (λ (v : Variable). front ++ mark false k ++ v.name) (map summary (variables_in places))
named_variables front k [] = refl
named_variables front k (v ∷ vs) = by v.old refl (named_variables front k vs)
  where
    by : (b : Bool) → v.old ≡ b
        → names_under front k (variables_in vs) ≡ map (λ (v : Variable). front ++ mark false k ++ v.name) (map summary (variables_in vs))
        → names_under front k (cond (not b) (v ∷ variables_in vs) (variables_in vs))
        ≡ map (λ (v : Variable). front ++ mark false k ++ v.name) (map summary (cond (not b) (v ∷ variables_in vs) (variables_in vs)))
    by true e rest = rest
    by false e rest =
        let first : front ++ brought_name k v ≡ front ++ mark false k ++ v.name =
        ap (λ b. front ++ (mark b k ++ v.name)) e ∙ sym (append_assoc front (mark false k) v.name) in
        ap (λ x. x ∷ names_under front k (variables_in vs)) first ∙ ap (λ xs. (front ++ mark false k ++ v.name) ∷ xs) rest

-- the new names of OLD copies
pub named_copies : (front : List ℕ) (k : ℕ) (vs : List Place)
    → names_under front k (map old_copy (filter is_copied vs)) ≡ map (λ (v : Variable). front ++ mark true k ++ v.name) (filter (λ (v : Variable). v.copied) (map summary vs))
named_copies front k [] = refl
named_copies front k (v ∷ vs) = by (is_copied v) (named_copies front k vs)
  where
    by : (b : Bool)
        → names_under front k (map old_copy (filter is_copied vs)) ≡ map (λ (v : Variable). front ++ mark true k ++ v.name) (filter (λ (v : Variable). v.copied) (map summary vs))
        → names_under front k (map old_copy (cond b (v ∷ filter is_copied vs) (filter is_copied vs)))
        ≡ map (λ (v : Variable). front ++ mark true k ++ v.name) (cond b (summary v ∷ filter (λ (v : Variable). v.copied) (map summary vs)) (filter (λ (v : Variable). v.copied) (map summary vs)))
    by true rest =
        ap (λ x. x ∷ names_under front k (map old_copy (filter is_copied vs))) (sym (append_assoc front (mark true k) v.name))
        ∙ ap (λ xs. (front ++ mark true k ++ v.name) ∷ xs) rest
    by false rest = rest

-- the new names of the places that calls brought, the first of which has number j
abbrev pub called_names : List WrittenProcedure → List ℕ → ℕ → List ℕ → List (List ℕ)
called_names before stem j [] = []
called_names before stem j (c ∷ cs) = names_under stem j (places_at before c) ++ called_names before stem (j + 1) cs

take_front : {A : Type 0} (xs ys : List A) → take (length xs) (xs ++ ys) ≡ xs
take_front [] ys = refl
take_front (x ∷ xs) ys = ap (λ zs. x ∷ zs) (take_front xs ys)

-- the place that a call brought is brought by a call once more
twice_brought : (front : List ℕ) (k j : ℕ) (qs : List Place) → names_under front k (map (brought j) qs) ≡ names_under (front ++ mark false k) j qs
twice_brought front k j [] = refl
twice_brought front k j (q ∷ qs) =
    ap (λ x. x ∷ names_under front k (map (brought j) qs)) (sym (append_assoc front (mark false k) (brought_name j q)))
    ∙ ap (λ xs. (front ++ mark false k ++ brought_name j q) ∷ xs) (twice_brought front k j qs)

one_call : (before : List WrittenProcedure) (front : List ℕ) (k j c : ℕ)
    → names_under front k (elim (slice_get (callees_of before) c) [ None ↦ [] | Some it ↦ map (brought j) it.expanded.places ]) ≡ names_under (front ++ mark false k) j (places_at before c)
one_call before front k j c = by (slice_get (callees_of before) c)
  where
    by : (o : Option Callee) → names_under front k (elim o [ None ↦ [] | Some it ↦ map (brought j) it.expanded.places ])
        ≡ names_under (front ++ mark false k) j (elim o [ None ↦ [] | Some it ↦ it.expanded.places ])
    by None = refl
    by (Some it) = twice_brought front k j it.expanded.places

calls_more : (xs : List WrittenLine) (x : WrittenLine) → count_by is_call (xs ++ x ∷ []) ≡ count_by is_call xs + cond (is_call x) 1 0
calls_more xs x = sum_by-append (λ y. cond (is_call y) 1 0) xs (x ∷ []) ∙ ap (λ n. sum_by (λ y. cond (is_call y) 1 0) xs + n) one
  where
    one : 0 + cond (is_call x) 1 0 ≡ cond (is_call x) 1 0
    one = omega arith

brought_from : (before : List WrittenProcedure) (p : WrittenProcedure) (front : List ℕ) (k : ℕ) (pre post : List WrittenLine) → p.lines ≡ pre ++ post
    → names_under front k (each_from (places_of (callees_of before) p) (length pre) post)
    ≡ called_names before (front ++ mark false k) (count_by is_call pre + 1) (flat_map callee_in post)
brought_from before p front k pre [] e = refl
brought_from before p front k pre (own i ∷ post) e =
    let n : suc (length pre) ≡ length (pre ++ own i ∷ []) = sym (length-append pre (own i ∷ []) ∙ omega arith) in
    let m : count_by is_call (pre ++ own i ∷ []) ≡ count_by is_call pre = calls_more pre (own i) ∙ omega arith in
    ap (λ l. names_under front k (each_from (places_of (callees_of before) p) l post)) n
    ∙ brought_from before p front k (pre ++ own i ∷ []) post (e ∙ sym (append_assoc pre (own i ∷ []) post))
    ∙ ap (λ c. called_names before (front ++ mark false k) (c + 1) (flat_map callee_in post)) m
brought_from before p front k pre (call c arguments ∷ post) e =
    let stem = front ++ mark false k in
    let line : WrittenLine = call c arguments in
    let n : suc (length pre) ≡ length (pre ++ line ∷ []) = sym (length-append pre (line ∷ []) ∙ omega arith) in
    let m : count_by is_call (pre ++ line ∷ []) ≡ count_by is_call pre + 1 = calls_more pre line in
    let number : call_number p.lines (length pre) ≡ count_by is_call pre + 1 =
    ap (λ l. count_by is_call (take (length pre) l) + 1) e ∙ ap (λ l. count_by is_call l + 1) (take_front pre (line ∷ post)) in
    let rest = each_from (places_of (callees_of before) p) (suc (length pre)) post in
    let here : names_under front k (places_of (callees_of before) p (length pre) line) ≡ names_under stem (count_by is_call pre + 1) (places_at before c) =
    one_call before front k (call_number p.lines (length pre)) c ∙ ap (λ j. names_under stem j (places_at before c)) number in
    let behind : names_under front k rest ≡ called_names before stem (count_by is_call pre + 1 + 1) (flat_map callee_in post) =
    ap (λ l. names_under front k (each_from (places_of (callees_of before) p) l post)) n
    ∙ brought_from before p front k (pre ++ line ∷ []) post (e ∙ sym (append_assoc pre (line ∷ []) post))
    ∙ ap (λ c. called_names before stem (c + 1) (flat_map callee_in post)) m in
    map-append (λ (q : Place). front ++ brought_name k q) (places_of (callees_of before) p (length pre) line) rest
    ∙ ap (λ ns. ns ++ names_under front k rest) here ∙ ap (λ ns. names_under stem (count_by is_call pre + 1) (places_at before c) ++ ns) behind

pub named_brought : (before : List WrittenProcedure) (p : WrittenProcedure) (front : List ℕ) (k : ℕ)
    → names_under front k (each_from (places_of (callees_of before) p) 0 p.lines) ≡ called_names before (front ++ mark false k) 1 (flat_map callee_in p.lines)
named_brought before p front k = brought_from before p front k [] p.lines refl
