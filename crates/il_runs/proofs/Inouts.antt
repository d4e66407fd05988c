-- The OLD copies of a procedure's INOUT variables, and the numbers of these variables.
use Rattle.std.proofs.Common.{◌≡◌, refl, sym, ap, ◌∙◌, ℕ, zero, suc, ◌+◌, ◌-◌, ◌<◌, ◌≤◌, inl, inr, Bool, true, false, ◌&&◌, cond, Some, List, [], ◌∷◌, ◌++◌, length, map, slice_get, arith}
use Rattle.std.specs.Prelude.{filter}
use Rattle.std.specs.Option.{option_map}
use Rattle.std.proofs.lemmas.Bool.{cases_lt, false≢true}
use Rattle.std.proofs.lemmas.Option.{same_Some, slice_get-map}
use Rattle.il_core.specs.Checked.{old_copy, is_copied, AreInOrder}
use Rattle.il_core.specs.Run.{is_variable, inout_from}
use Rattle.il_core.specs.declared.line.Place.{Place}
use Rattle.il_called.specs.Called.{WrittenProcedure}
use Rattle.il_called.specs.Expansion.{variables_in}
use Rattle.il_inline.proofs.Shape.{behind, past}
use Rattle.il_runs.proofs.Numbers.{variables_within}

-- there are as many OLD copies as INOUT variables
inout_count : (k : ℕ) (ps : List Place) → length (inout_from k ps) ≡ length (filter is_copied (filter is_variable ps))
inout_count k [] = refl
inout_count k (p ∷ ps) = by_test (is_variable p) (is_copied p) refl (inout_count (suc k) ps)
  where
    by_test : (a b : Bool) → is_copied p ≡ b → length (inout_from (suc k) ps) ≡ length (filter is_copied (filter is_variable ps))
        → length (cond (a && b) (k ∷ inout_from (suc k) ps) (inout_from (suc k) ps)) ≡ length (filter is_copied (cond a (p ∷ filter is_variable ps) (filter is_variable ps)))
    by_test true true e h = ap suc h ∙ ap (λ c. length (cond c (p ∷ filter is_copied (filter is_variable ps)) (filter is_copied (filter is_variable ps)))) (sym e)
    by_test true false e h = h ∙ ap (λ c. length (cond c (p ∷ filter is_copied (filter is_variable ps)) (filter is_copied (filter is_variable ps)))) (sym e)
    by_test false b e h = h

pub places_count : (p : WrittenProcedure) → AreInOrder p.places → length p.places ≡ length (variables_in p.places) + length (inout_from 0 p.places)
places_count p order = variables_within p order ∙ ap (λ n. length (variables_in p.places) + n) (sym (inout_count 0 p.places))

-- an INOUT variable among places that are numbered from k on, and among those that are copied
record InoutAt (k : ℕ) (ps copied : List Place) (j n : ℕ) : Type 0 where
  place : Place
  index : ℕ
  number : n ≡ k + index
  there : slice_get ps index ≡ Some place
  variable : is_variable place ≡ true
  listed : slice_get copied j ≡ Some place

inout_later : (k : ℕ) (p : Place) (ps some all : List Place) (i j n : ℕ) → ((v : Place) → slice_get some i ≡ Some v → slice_get all j ≡ Some v) → InoutAt (suc k) ps some i n
    → InoutAt k (p ∷ ps) all j n
inout_later k p ps some all i j n same r =
    let e = r.number in
    record { place = r.place; index = suc r.index; number = omega arith; there = r.there; variable = r.variable; listed = same r.place r.listed }

inout_at : (k : ℕ) (ps : List Place) (j n : ℕ) → slice_get (inout_from k ps) j ≡ Some n → InoutAt k ps (filter is_copied (filter is_variable ps)) j n
inout_at k [] j n e = grind arith
inout_at k (p ∷ ps) j n e = by_test (is_variable p) (is_copied p) refl refl j e (λ i m h. inout_at (suc k) ps i m h)
  where
    some : List Place
    some = filter is_copied (filter is_variable ps)

    by_test : (a b : Bool) → is_variable p ≡ a → is_copied p ≡ b → (j : ℕ) → slice_get (cond (a && b) (k ∷ inout_from (suc k) ps) (inout_from (suc k) ps)) j ≡ Some n
        → ((i m : ℕ) → slice_get (inout_from (suc k) ps) i ≡ Some m → InoutAt (suc k) ps some i m)
        → InoutAt k (p ∷ ps) (filter is_copied (cond a (p ∷ filter is_variable ps) (filter is_variable ps))) j n
    by_test true true v c zero h rest =
        let m : k ≡ n = same_Some _ _ h in
        record { place = p; index = 0; number = omega arith; there = refl; variable = v; listed = ap (λ b. slice_get (cond b (p ∷ some) some) 0) c }
    by_test true true v c (suc j) h rest =
        inout_later k p ps some _ j (suc j) n (λ x l. ap (λ b. slice_get (cond b (p ∷ some) some) (suc j)) c ∙ l) (rest j n h)
    by_test true false v c j h rest =
        inout_later k p ps some _ j j n (λ x l. ap (λ b. slice_get (cond b (p ∷ some) some) j) c ∙ l) (rest j n h)
    by_test false b v c j h rest = inout_later k p ps some _ j j n (λ x l. l) (rest j n h)

-- an INOUT variable and its OLD copy
pub record HasCopy (p : WrittenProcedure) (j n : ℕ) : Type 0 where
  pub place : Place
  pub there : slice_get p.places n ≡ Some place
  pub below : n < length (variables_in p.places)
  pub copy : slice_get p.places (length (variables_in p.places) + j) ≡ Some (old_copy place)

pub has_copy : (p : WrittenProcedure) (j n : ℕ) → AreInOrder p.places → slice_get (inout_from 0 p.places) j ≡ Some n → HasCopy p j n
has_copy p j n order e = record {
  place = r.place;
  there = stands;
  below = elim (cases_lt n (length vs)) [ inl h ↦ h | inr h ↦ absurd (late h) ];
  copy = ap (λ (l : List Place). slice_get l (length vs + j)) order
      ∙ behind vs copies (length vs) j (length vs + j) (old_copy r.place) refl refl (slice_get-map old_copy (filter is_copied vs) j ∙ ap (option_map old_copy) r.listed);
}
  where
    r : InoutAt 0 p.places (filter is_copied (filter is_variable p.places)) j n
    r = inout_at 0 p.places j n e

    vs : List Place
    vs = variables_in p.places

    copies : List Place
    copies = map old_copy (filter is_copied vs)

    stands : slice_get p.places n ≡ Some r.place
    stands = let f = r.number in ap (slice_get p.places) (let g : n ≡ r.index = omega arith in g) ∙ r.there

    -- behind the variables all places are OLD copies
    mapped_old : (xs : List Place) (m : ℕ) (v : Place) → slice_get (map old_copy xs) m ≡ Some v → is_variable v ≡ false
    mapped_old [] m v h = grind arith
    mapped_old (x ∷ xs) zero v h = sym (ap is_variable (same_Some _ _ h))
    mapped_old (x ∷ xs) (suc m) v h = mapped_old xs m v h

    late : length vs ≤ n → ⊥
    late h =
        let m : length vs + (n - length vs) ≡ n = omega arith in
        let there : slice_get copies (n - length vs) ≡ Some r.place =
        sym (past vs copies (n - length vs)) ∙ ap (slice_get (vs ++ copies)) m ∙ ap (λ (l : List Place). slice_get l n) (sym order) ∙ stands in
        false≢true (sym (mapped_old (filter is_copied vs) (n - length vs) r.place there) ∙ r.variable)
