-- An input of a line is a state within the ranges that meets the constraints on OLD copies.
use Rattle.std.proofs.Common.{◌≡◌, ◌∙◌, inl, inr, refl, sym, ap, subst, ℕ, zero, suc, ◌<◌, ◌≤◌, ◌+◌, ◌-◌, ◌≤ℤ◌, Bool, true, false, ◌&&◌, cond, List, [], ◌∷◌, length, map, Some, slice_get, arith}
use Rattle.std.specs.Prelude.{filter}
use Rattle.std.proofs.lemmas.Int.{ints}
use Rattle.std.proofs.lemmas.List.{length-map, length-append}
use Rattle.std.proofs.lemmas.Option.{same_Some, none-some}
use Rattle.il_core.specs.Evaluation.{State, value_at}
use Rattle.il_core.specs.Run.{IsInRange, is_inout, is_variable, variable_count, inout_from}
use Rattle.il_core.specs.Input.{IsInput}
use Rattle.il_core.specs.Checked.{is_copied, old_copy, AreInOrder}
use Rattle.il_core.specs.Places.{AreCheckedPlaces}
use Rattle.il_core.specs.LineGraph.{IsIn}
use Rattle.il_core.specs.declared.line.Place.{Place}
use Rattle.difference.specs.Constraints.{IsWithin, IsGiven, IsRange, Meets}
use Rattle.difference.specs.declared.constraint.Range64.{Range64}
use Rattle.difference.specs.declared.constraint.Constraint.{Constraint}
use Rattle.difference.proofs.Lists.{get_mapped}
use Rattle.path_inputs.specs.Bounding.{range_of, not_above, equal_from, copies}
use Rattle.path_inputs.proofs.Elements.{get-map, from-map}
use Rattle.path_inputs.proofs.Members.{place-of}

pub range-within : (places : List Place) (s : State) → IsInRange places s → IsWithin (map range_of places) s
range-within places s h = record {
  size = h.size ∙ sym (length-map places range_of);
  least = λ k r e. let p = get_mapped range_of places k r e in subst (λ x. x.least ≤ℤ value_at s k) p.2 (h.least k p.0 p.1);
  greatest = λ k r e. let p = get_mapped range_of places k r e in subst (λ x. value_at s k ≤ℤ x.greatest) p.2 (h.greatest k p.0 p.1);
}

pub within-range : (places : List Place) (s : State) → IsWithin (map range_of places) s → IsInRange places s
within-range places s h = record {
  size = h.size ∙ length-map places range_of;
  least = λ k p e. h.least k (range_of p) (get-map range_of places k p e);
  greatest = λ k p e. h.greatest k (range_of p) (get-map range_of places k p e);
}

-- equal places meet both constraints
same-above : (s : State) (p q : ℕ) → value_at s p ≡ value_at s q → Meets s (not_above p q)
same-above s p q e = record { kept = omega (arith, ints) }

equal-met : (c : ℕ) (ks : List ℕ) (s : State) → ((j k : ℕ) → slice_get ks j ≡ Some k → value_at s (c + j) ≡ value_at s k)
    → (d : Constraint) → IsIn (equal_from c ks) d → Meets s d
equal-met c [] s h d i = absurd i
equal-met c (k ∷ ks) s h d (inl e) =
    let z : c ≡ c + 0 = omega arith in subst (Meets s) e (same-above s c k (ap (value_at s) z ∙ h 0 k refl))
equal-met c (k ∷ ks) s h d (inr (inl e)) =
    let z : c ≡ c + 0 = omega arith in subst (Meets s) e (same-above s k c (sym (ap (value_at s) z ∙ h 0 k refl)))
equal-met c (k ∷ ks) s h d (inr (inr i)) =
    equal-met (suc c) ks s (λ j l e. let z : suc c + j ≡ c + suc j = omega arith in ap (value_at s) z ∙ h (suc j) l e) d i

met-equal : (c : ℕ) (ks : List ℕ) (s : State) → ((d : Constraint) → IsIn (equal_from c ks) d → Meets s d)
    → (j k : ℕ) → slice_get ks j ≡ Some k → value_at s (c + j) ≡ value_at s k
met-equal c [] s h j k e = absurd (none-some k e)
met-equal c (l ∷ ks) s h zero k e =
    let z : c + 0 ≡ c = omega arith in
    let a = (h (not_above c l) (inl refl)).kept in
    let b = (h (not_above l c) (inr (inl refl))).kept in
    let f : value_at s c ≡ value_at s l = omega (arith, ints) in
    ap (value_at s) z ∙ (f ∙ ap (value_at s) (same_Some l k e))
met-equal c (l ∷ ks) s h (suc j) k e =
    let z : c + suc j ≡ suc c + j = omega arith in
    ap (value_at s) z ∙ met-equal (suc c) ks s (λ d i. h d (inr (inr i))) j k e

pub input-copies : (places : List Place) (pc : ℕ) (s : State) → IsInput places pc s → (d : Constraint) → IsIn (copies places pc) d → Meets s d
input-copies places zero s h d i = equal-met (variable_count places) (inout_from 0 places) s h.same d i
input-copies places (suc pc) s h d i = absurd i

pub input-range : (places : List Place) (pc : ℕ) (s : State) → IsInput places pc s → IsInRange places s
input-range places zero s h = h.in_range
input-range places (suc pc) s h = h

pub copies-input : (places : List Place) (pc : ℕ) (s : State) → IsInRange places s → ((d : Constraint) → IsIn (copies places pc) d → Meets s d) → IsInput places pc s
copies-input places zero s r h = record { in_range = r; same = met-equal (variable_count places) (inout_from 0 places) s h }
copies-input places (suc pc) s r h = r

-- there are as many OLD copies as INOUT variables
inout-length : (k : ℕ) (ps : List Place) → length (inout_from k ps) ≡ length (filter is_copied (filter is_variable ps))
inout-length k [] = refl
inout-length k (p ∷ ps) = by_test (is_variable p) (is_copied p) refl (inout-length (suc k) ps)
  where
    by_test : (a b : Bool) → is_copied p ≡ b → length (inout_from (suc k) ps) ≡ length (filter is_copied (filter is_variable ps))
        → length (cond (a && b) (k ∷ inout_from (suc k) ps) (inout_from (suc k) ps)) ≡ length (filter is_copied (cond a (p ∷ filter is_variable ps) (filter is_variable ps)))
    by_test true true e h = ap suc h ∙ ap (λ c. length (cond c (p ∷ filter is_copied (filter is_variable ps)) (filter is_copied (filter is_variable ps)))) (sym e)
    by_test true false e h = h ∙ ap (λ c. length (cond c (p ∷ filter is_copied (filter is_variable ps)) (filter is_copied (filter is_variable ps)))) (sym e)
    by_test false b e h = h

pub copy-count : (places : List Place) → AreInOrder places → length places ≡ variable_count places + length (inout_from 0 places)
copy-count places h =
    ap length h
    ∙ (length-append (filter is_variable places) (map old_copy (filter is_copied (filter is_variable places)))
    ∙ (ap (λ n. variable_count places + n) (length-map (filter is_copied (filter is_variable places)) old_copy)
    ∙ ap (λ n. variable_count places + n) (sym (inout-length 0 places))))

inout-below : (k : ℕ) (ps : List Place) (i : ℕ) → IsIn (inout_from k ps) i → i < k + length ps
inout-below k [] i h = absurd h
inout-below k (p ∷ ps) i h = by_test (is_variable p && is_inout p.mode) h (λ g. inout-below (suc k) ps i g)
  where
    by_test : (b : Bool) → IsIn (cond b (k ∷ inout_from (suc k) ps) (inout_from (suc k) ps)) i → (IsIn (inout_from (suc k) ps) i → i < suc k + length ps) → i < k + length (p ∷ ps)
    by_test true (inl e) f = omega arith
    by_test true (inr g) f = let l = f g in omega arith
    by_test false g f = let l = f g in omega arith

equal-given : (n c : ℕ) (ks : List ℕ) → c + length ks ≤ n → ((k : ℕ) → IsIn ks k → k < n) → (d : Constraint) → IsIn (equal_from c ks) d → IsGiven n d
equal-given n c [] l h d i = absurd i
equal-given n c (k ∷ ks) l h d (inl e) = subst (IsGiven n) e (record { left = omega arith; right = h k (inl refl); bound = omega arith })
equal-given n c (k ∷ ks) l h d (inr (inl e)) = subst (IsGiven n) e (record { left = h k (inl refl); right = omega arith; bound = omega arith })
equal-given n c (k ∷ ks) l h d (inr (inr i)) = equal-given n (suc c) ks (omega arith) (λ j g. h j (inr g)) d i

pub copies-given : (places : List Place) (pc : ℕ) → AreCheckedPlaces places → (d : Constraint) → IsIn (copies places pc) d → IsGiven (length places) d
copies-given places zero h d i =
    let c = copy-count places h.in_order in
    equal-given (length places) (variable_count places) (inout_from 0 places) (omega arith) (λ k g. let b = inout-below 0 places k g in omega arith) d i
copies-given places (suc pc) h d i = absurd i

pub ranges-ordered : (places : List Place) → AreCheckedPlaces places → (r : Range64) → IsIn (map range_of places) r → IsRange r
ranges-ordered places h r i =
    let p = from-map range_of places r i in
    let j = place-of places p.0 p.1 in
    subst IsRange p.2 (h.ranges j.0 p.0 j.1).ordered

-- the first OLD copy stands behind the variables
pub first-copy : (places : List Place) (n : ℕ) → AreCheckedPlaces places → n ≡ length places - length (inout_from 0 places) → n ≡ variable_count places
first-copy places n h e = let c = copy-count places h.in_order in omega arith

pub copies-few : (places : List Place) → AreCheckedPlaces places → length (inout_from 0 places) ≤ length places
copies-few places h = let c = copy-count places h.in_order in omega arith
