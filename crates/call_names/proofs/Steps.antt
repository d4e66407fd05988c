-- What a search finds in the part that it has come to.
use Rattle.std.proofs.Common.{◌≡◌, ℕ, ◌+◌, ◌<◌, ◌≤◌, ◌∙◌, sym, ap, refl, true, false, List, [], ◌∷◌, ◌++◌, length, take, drop, arith, inl, inr, get_or}
use Rattle.std.specs.Prelude.{Option, Some, None, map, find, filter, slice_get}
use Rattle.std.specs.Option.{option_or}
use Rattle.std.proofs.lemmas.List.Folds.{find-append}
use Rattle.std.proofs.lemmas.List.{drop_more, drop_all}
use Rattle.std.proofs.lemmas.Option.{slice_get_cases, slice_get_within, slice_get_past}
use Rattle.il_called.specs.Called.{WrittenProcedure}
use Rattle.call_names.specs.Search.{is_among, begins_with, mark, names_under, places_at}
use Rattle.call_names.specs.Outlines.{IsOutlined, AreOutlined}
use Rattle.call_names.specs.declared.outline.Outline.{Outline}
use Rattle.call_names.specs.declared.outline.Variable.{Variable}
use Rattle.call_names.proofs.Brought.{called_names, no_places}
use Rattle.call_names.proofs.Parts.{in_parts, variables_those, none_sought}

there : (procs : List WrittenProcedure) (outlines : List Outline) (n : ℕ) (o : Outline) → AreOutlined procs outlines → slice_get outlines n ≡ Some o
    → (p : WrittenProcedure) × (slice_get procs n ≡ Some p) × IsOutlined p o
there procs outlines n o h s = elim (slice_get_cases procs n).1 [
  | inl it ↦ (it.0, it.2, h.each n it.0 o it.2 s)
  | inr past ↦ absurd (let w = slice_get_within outlines n o s in let l = h.size in let m = past.0 in omega arith)
]

-- a procedure without an outline brings no names
pub none_there : (procs : List WrittenProcedure) (outlines : List Outline) (n : ℕ) (front : List ℕ) (k : ℕ) (sought : List (List ℕ)) → AreOutlined procs outlines
    → length outlines ≤ n → find (is_among sought) (names_under front k (places_at procs n)) ≡ None
none_there procs outlines n front k sought h past =
    let l = h.size in
    ap (λ ps. find (is_among sought) (names_under front k ps)) (no_places procs n (slice_get_past procs n (omega arith)))

-- the names that begin with the stem of a call
pub record AreThose (front : List ℕ) (k : ℕ) (sought : List (List ℕ)) (stem : List ℕ) (those : List (List ℕ)) : Type 0 where
  pub begins : stem ≡ front ++ mark false k
  pub kept : those ≡ filter (begins_with stem) sought

-- the three parts of what is found
abbrev parts : (procs : List WrittenProcedure) (n : ℕ) (front : List ℕ) (k : ℕ) (sought : List (List ℕ)) (stem : List ℕ) (those : List (List ℕ)) (o : Outline) → Option (List ℕ)
parts procs n front k sought stem those o =
    option_or (option_or (find (is_among those) (map (λ (v : Variable). stem ++ v.name) o.variables)) (find (is_among those) (called_names (take n procs) stem 1 o.calls)))
    (find (is_among sought) (map (λ (v : Variable). front ++ mark true k ++ v.name) (filter (λ (v : Variable). v.copied) o.variables)))

parts_are : (procs : List WrittenProcedure) (outlines : List Outline) (n : ℕ) (o : Outline) (front : List ℕ) (k : ℕ) (sought : List (List ℕ)) (stem : List ℕ) (those : List (List ℕ))
    → AreOutlined procs outlines → slice_get outlines n ≡ Some o → AreThose front k sought stem those
    → find (is_among sought) (names_under front k (places_at procs n)) ≡ parts procs n front k sought stem those o
parts_are procs outlines n o front k sought stem those h s t =
    let p = there procs outlines n o h s in
    in_parts procs n p.0 o front k sought p.1 p.2
    ∙ ap (λ (z : List ℕ). parts procs n front k sought z (filter (begins_with z) sought) o) (sym t.begins)
    ∙ ap (λ (l : List (List ℕ)). parts procs n front k sought stem l o) (sym t.kept)

module _ (procs : List WrittenProcedure) (outlines : List Outline) (n : ℕ) (o : Outline) (front : List ℕ) (k : ℕ) (sought : List (List ℕ)) (stem : List ℕ) (those : List (List ℕ))
    (h : AreOutlined procs outlines) (s : slice_get outlines n ≡ Some o) (t : AreThose front k sought stem those) where
  whole : Option (List ℕ)
  whole = find (is_among sought) (names_under front k (places_at procs n))

  abbrev pub of_variables : Option (List ℕ)
  of_variables = find (is_among those) (map (λ (v : Variable). stem ++ v.name) o.variables)

  abbrev pub of_calls : Option (List ℕ)
  of_calls = find (is_among those) (called_names (take n procs) stem 1 o.calls)

  abbrev pub of_copies : Option (List ℕ)
  of_copies = find (is_among sought) (map (λ (v : Variable). front ++ mark true k ++ v.name) (filter (λ (v : Variable). v.copied) o.variables))

  pub found_variable : (x : List ℕ) → of_variables ≡ Some x → find (is_among sought) (names_under front k (places_at procs n)) ≡ Some x
  found_variable x e = parts_are procs outlines n o front k sought stem those h s t ∙ ap (λ a. option_or (option_or a of_calls) of_copies) e

  pub found_called : (x : List ℕ) → of_variables ≡ None → of_calls ≡ Some x → find (is_among sought) (names_under front k (places_at procs n)) ≡ Some x
  found_called x e f = parts_are procs outlines n o front k sought stem those h s t ∙ ap (λ a. option_or (option_or a of_calls) of_copies) e ∙ ap (λ b. option_or b of_copies) f

  pub found_copy : of_variables ≡ None → of_calls ≡ None → find (is_among sought) (names_under front k (places_at procs n)) ≡ of_copies
  found_copy e f = parts_are procs outlines n o front k sought stem those h s t ∙ ap (λ a. option_or (option_or a of_calls) of_copies) e ∙ ap (λ b. option_or b of_copies) f

  pub none_begin : those ≡ [] → find (is_among sought) (names_under front k (places_at procs n)) ≡ of_copies
  none_begin e = found_copy
      (ap (λ l. find (is_among l) (map (λ (v : Variable). stem ++ v.name) o.variables)) e ∙ none_sought (map (λ (v : Variable). stem ++ v.name) o.variables))
      (ap (λ l. find (is_among l) (called_names (take n procs) stem 1 o.calls)) e ∙ none_sought (called_names (take n procs) stem 1 o.calls))

-- one call more
module _ (before : List WrittenProcedure) (stem : List ℕ) (those : List (List ℕ)) (calls : List ℕ) (i : ℕ) (inside : i < length calls) where
  abbrev c : ℕ
  c = get_or calls i 0

  call_here : find (is_among those) (called_names before stem (i + 1) (drop i calls))
      ≡ option_or (find (is_among those) (names_under stem (i + 1) (places_at before c))) (find (is_among those) (called_names before stem (i + 1 + 1) (drop (i + 1) calls)))
  call_here = ap (λ cs. find (is_among those) (called_names before stem (i + 1) cs)) (drop_more calls i 0 inside)
      ∙ find-append (is_among those) (names_under stem (i + 1) (places_at before c)) (called_names before stem (i + 1 + 1) (drop (i + 1) calls))

  pub call_passed : find (is_among those) (names_under stem (i + 1) (places_at before c)) ≡ None
      → find (is_among those) (called_names before stem (i + 1 + 1) (drop (i + 1) calls)) ≡ find (is_among those) (called_names before stem (i + 1) (drop i calls))
  call_passed e = sym (call_here ∙ ap (λ a. option_or a (find (is_among those) (called_names before stem (i + 1 + 1) (drop (i + 1) calls)))) e)

  pub call_found : (x : List ℕ) → find (is_among those) (names_under stem (i + 1) (places_at before c)) ≡ Some x
      → find (is_among those) (called_names before stem (i + 1) (drop i calls)) ≡ Some x
  call_found x e = call_here ∙ ap (λ a. option_or a (find (is_among those) (called_names before stem (i + 1 + 1) (drop (i + 1) calls)))) e

pub calls_end : (before : List WrittenProcedure) (stem : List ℕ) (those : List (List ℕ)) (calls : List ℕ) (i j : ℕ) → length calls ≤ i
    → find (is_among those) (called_names before stem j (drop i calls)) ≡ None
calls_end before stem those calls i j past = ap (λ cs. find (is_among those) (called_names before stem j cs)) (drop_all i calls past)

-- what has been found with a stem, names and variables as they are read
pub read_variables : (found : Option (List ℕ)) (s stem : List ℕ) (l those : List (List ℕ)) (vs variables : List Variable) → s ≡ stem → l ≡ those → vs ≡ variables
    → found ≡ find (is_among l) (map (λ (v : Variable). s ++ v.name) vs) → find (is_among those) (map (λ (v : Variable). stem ++ v.name) variables) ≡ found
read_variables found s stem l those vs variables a b d e = sym (
    e ∙ ap (λ (z : List ℕ). find (is_among l) (map (λ (v : Variable). z ++ v.name) vs)) a ∙ ap (λ ns. find (is_among ns) (map (λ (v : Variable). stem ++ v.name) vs)) b
    ∙ ap (λ (ws : List Variable). find (is_among those) (map (λ (v : Variable). stem ++ v.name) ws)) d
    )

pub read_copies : (found : Option (List ℕ)) (front : List ℕ) (k : ℕ) (sought : List (List ℕ)) (vs variables : List Variable) → vs ≡ variables
    → found ≡ find (is_among sought) (map (λ (v : Variable). front ++ mark true k ++ v.name) (filter (λ (v : Variable). v.copied) vs))
    → found ≡ find (is_among sought) (map (λ (v : Variable). front ++ mark true k ++ v.name) (filter (λ (v : Variable). v.copied) variables))
read_copies found front k sought vs variables d e =
    e ∙ ap (λ (ws : List Variable). find (is_among sought) (map (λ (v : Variable). front ++ mark true k ++ v.name) (filter (λ (v : Variable). v.copied) ws))) d

-- of the names that begin with the stem of OLD copies is found what is found of all
pub copies_those : (front : List ℕ) (k : ℕ) (sought those : List (List ℕ)) (s : List ℕ) (ws : List Variable) → s ≡ front ++ mark true k → those ≡ filter (begins_with s) sought
    → find (is_among those) (map (λ (v : Variable). s ++ v.name) ws) ≡ find (is_among sought) (map (λ (v : Variable). front ++ mark true k ++ v.name) ws)
copies_those front k sought those s ws e f =
    ap (λ l. find (is_among l) (map (λ (v : Variable). s ++ v.name) ws)) f ∙ sym (variables_those s sought ws)
    ∙ ap (λ (z : List ℕ). find (is_among sought) (map (λ (v : Variable). z ++ v.name) ws)) e

pub read_calls : (found : Option (List ℕ)) (before : List WrittenProcedure) (s stem : List ℕ) (l those : List (List ℕ)) (j n : ℕ) → s ≡ stem → l ≡ those
    → found ≡ find (is_among l) (names_under s j (places_at before n)) → find (is_among those) (names_under stem j (places_at before n)) ≡ found
read_calls found before s stem l those j n a b e = sym (
    e ∙ ap (λ (z : List ℕ). find (is_among l) (names_under z j (places_at before n))) a ∙ ap (λ ns. find (is_among ns) (names_under stem j (places_at before n))) b
    )

pub kept_those : (front : List ℕ) (k : ℕ) (sought : List (List ℕ)) (s stem : List ℕ) (those : List (List ℕ)) → stem ≡ front ++ mark false k → s ≡ stem
    → those ≡ filter (begins_with s) sought → AreThose front k sought stem those
kept_those front k sought s stem those e a f = record { begins = e; kept = f ∙ ap (λ (z : List ℕ). filter (begins_with z) sought) a }

-- an empty list
pub none_left : {A : Type 0} (xs : List A) → length xs ≡ 0 → xs ≡ []
none_left [] e = refl
none_left (x ∷ xs) e = absurd (omega arith)
