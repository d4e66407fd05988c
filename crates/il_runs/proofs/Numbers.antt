-- How a procedure's own places are numbered in its expansion.
use Rattle.std.proofs.Common.{◌≡◌, ℕ, zero, suc, ◌+◌, ◌-◌, ◌<◌, ◌≤◌, inl, inr, List, [], ◌∷◌, ◌++◌, length, map, take, drop, sym, ap, ◌∙◌, arith}
use Rattle.std.specs.Prelude.{◌⊎◌, filter, sum_by, slice_get, Some, Bool, if◌then◌else◌}
use Rattle.std.proofs.lemmas.Bool.{cases_lt, le-ltb, lt-ltb}
use Rattle.std.proofs.lemmas.List.{length-append, length-map, length-drop}
use Rattle.std.proofs.lemmas.List.Sums.{sum_by-cons}
use Rattle.std.proofs.lemmas.Option.{same_Some}
use Rattle.il_core.specs.Checked.{old_copy, is_copied, AreInOrder}
use Rattle.il_core.specs.declared.line.Place.{Place}
use Rattle.il_called.specs.Called.{Passed, WrittenLine, call, WrittenProcedure}
use Rattle.il_called.specs.Expansion.{Callee, variables_in, brings, base_of, own_place, each_from, places_of, expansion_of}
use Rattle.il_inline.specs.Calls.{CallFits}
use Rattle.il_inline.proofs.Held.{brings_held}
use Rattle.il_inline.proofs.Shape.{behind}
use Rattle.il_inline.proofs.Sizes.{length_places}
use Rattle.il_inline.proofs.Texts.{kept_left}
use Rattle.il_runs.proofs.Blocks.{front, dropped}

-- a variable keeps its number, and an OLD copy is moved up by what the calls bring
pub own_cases : (before : List Callee) (p : WrittenProcedure) (k : ℕ)
    → ((k < length (variables_in p.places)) × (own_place before p k ≡ k)) ⊎ ((length (variables_in p.places) ≤ k) × (own_place before p k ≡ k + sum_by (brings before) p.lines))
own_cases before p k = elim (cases_lt k (length (variables_in p.places))) [
  | inl h ↦ inl (h, ap (λ (b : Bool). if b then k else k + sum_by (brings before) p.lines) (lt-ltb k (length (variables_in p.places)) h))
  | inr h ↦ inr (h, ap (λ (b : Bool). if b then k else k + sum_by (brings before) p.lines) (le-ltb k (length (variables_in p.places)) h))
]

pub own_apart : (before : List Callee) (p : WrittenProcedure) (j k : ℕ) → own_place before p j ≡ own_place before p k → j ≡ k
own_apart before p j k e = elim (own_cases before p j) [
  | inl a ↦ elim (own_cases before p k) [ inl b ↦ omega arith | inr b ↦ absurd (omega arith) ]
  | inr a ↦ elim (own_cases before p k) [ inl b ↦ absurd (omega arith) | inr b ↦ omega arith ]
]

-- the variables are among the places, and the rest are OLD copies
pub variables_within : (p : WrittenProcedure) → AreInOrder p.places → length p.places ≡ length (variables_in p.places) + length (filter is_copied (variables_in p.places))
variables_within p order =
    ap length order ∙ length-append (variables_in p.places) (map old_copy (filter is_copied (variables_in p.places)))
    ∙ ap (λ n. length (variables_in p.places) + n) (length-map (filter is_copied (variables_in p.places)) old_copy)

pub wide_length : (before : List Callee) (number : ℕ) (p : WrittenProcedure) → AreInOrder p.places
    → length (expansion_of before number p).places ≡ length p.places + sum_by (brings before) p.lines
wide_length before number p order =
    let vs = variables_in p.places in
    let middle = each_from (places_of before p) 0 p.lines in
    let a = length-append (vs ++ middle) (drop (length vs) p.places) in
    let b = length-append vs middle in
    let c = length_places before p in
    let d = length-drop (length vs) p.places in
    let e = variables_within p order in
    omega arith

-- an own place stands in the expansion
pub own_there : (before : List Callee) (number : ℕ) (p : WrittenProcedure) (k : ℕ) (place : Place) → AreInOrder p.places → slice_get p.places k ≡ Some place
    → slice_get (expansion_of before number p).places (own_place before p k) ≡ Some place
own_there before number p k place order e = elim (own_cases before p k) [
  | inl a ↦
      let here : slice_get vs k ≡ Some place = sym (front vs (map old_copy (filter is_copied vs)) k a.0) ∙ ap (λ (l : List Place). slice_get l k) (sym order) ∙ e in
      ap (slice_get (vs ++ middle ++ rest)) a.1 ∙ kept_left (vs ++ middle) rest k place (kept_left vs middle k place here)
  | inr a ↦
      let m : length vs + (k - length vs) ≡ k = omega arith in
      let here : slice_get rest (k - length vs) ≡ Some place = dropped (length vs) p.places (k - length vs) ∙ ap (slice_get p.places) m ∙ e in
      let b = length-append vs middle in
      let c = length_places before p in
      let own = a.1 in
      behind (vs ++ middle) rest (length vs + sum_by (brings before) p.lines) (k - length vs) (own_place before p k) place (omega arith) (omega arith) here
]
  where
    vs : List Place
    vs = variables_in p.places

    middle : List Place
    middle = each_from (places_of before p) 0 p.lines

    rest : List Place
    rest = drop (length vs) p.places

pub own_back : (before : List Callee) (number : ℕ) (p : WrittenProcedure) (k : ℕ) → AreInOrder p.places → own_place before p k < length (expansion_of before number p).places
    → k < length p.places
own_back before number p k order h =
    let w = wide_length before number p order in
    let v = variables_within p order in
    elim (own_cases before p k) [ inl a ↦ omega arith | inr a ↦ omega arith ]

pub own_below : (before : List Callee) (number : ℕ) (p : WrittenProcedure) (k : ℕ) → AreInOrder p.places → k < length p.places
    → own_place before p k < length (expansion_of before number p).places
own_below before number p k order h =
    let w = wide_length before number p order in
    elim (own_cases before p k) [ inl a ↦ omega arith | inr a ↦ omega arith ]

-- what a line brings stands among what all lines bring
brings_within : (before : List Callee) (lines : List WrittenLine) (n : ℕ) (line : WrittenLine) → slice_get lines n ≡ Some line
    → sum_by (brings before) (take n lines) + brings before line ≤ sum_by (brings before) lines
brings_within before [] n line e = grind arith
brings_within before (first ∷ lines) zero line e =
    let s = sum_by-cons (brings before) first lines in
    let same : brings before first ≡ brings before line = ap (brings before) (same_Some _ _ e) in
    omega arith
brings_within before (first ∷ lines) (suc n) line e =
    let r = brings_within before lines n line e in
    let a = sum_by-cons (brings before) first (take n lines) in
    let b = sum_by-cons (brings before) first lines in
    omega arith

-- the places that a call brings stand behind the variables and before the OLD copies
pub record BlockFits (before : List Callee) (p : WrittenProcedure) (n width : ℕ) : Type 0 where
  pub low : length (variables_in p.places) ≤ base_of before p n
  pub high : base_of before p n + width ≤ length (variables_in p.places) + sum_by (brings before) p.lines

pub block_fits : (before : List Callee) (p : WrittenProcedure) (n c : ℕ) (arguments : List Passed) (fits : CallFits before c arguments) → slice_get p.lines n ≡ Some (call c arguments)
    → BlockFits before p n (length fits.callee.expanded.places)
block_fits before p n c arguments fits e =
    let b = brings_held before c arguments fits.callee fits.there in
    let w = brings_within before p.lines n (call c arguments) e in
    record { low = omega arith; high = omega arith }

-- an own place is none of them
pub own_outside : (before : List Callee) (p : WrittenProcedure) (n width k : ℕ) → BlockFits before p n width
    → (own_place before p k < base_of before p n) ⊎ (base_of before p n + width ≤ own_place before p k)
own_outside before p n width k fits =
    let l = fits.low in
    let h = fits.high in
    elim (own_cases before p k) [ inl a ↦ inl (omega arith) | inr a ↦ inr (omega arith) ]
