-- A certificate that splits a literal refutes where both sides do.
use Rattle.std.proofs.Common.{◌≡◌, ◌∙◌, refl, sym, ap, subst, ℕ, zero, suc, ◌-◌, ◌<◌, ◌≤◌, max, ℤ, Bool, Option, Some, None, Result, Ok, Err, IfOk, List, [], ◌∷◌, map, length, replicate, slice_get, arith}
use Rattle.std.specs.Prelude.{slice_set, IsTrue, ◌↔◌}
use Rattle.std.proofs.lemmas.Option.{same_Some, none-some, get_or_from_slice_get, slice_get_within}
use Rattle.std.proofs.lemmas.List.{set-set, set-get_or, get_or-replicate, length-replicate}
use Rattle.il_core.specs.declared.line.Place.{Place}
use Rattle.il_core.specs.declared.operator.Relation.{Relation}
use Rattle.il_core.specs.declared.operator.Relation.TheVariants.{Ne, Lt, Gt}
use Rattle.il_core.specs.declared.certificate.Share.{Share}
use Rattle.il_core.specs.Certificate.{Certificate, sum, split, nesting}
use Rattle.sym_simplify.specs.declared.normal.LitForm.{LitForm}
use Rattle.sym_simplify.specs.Form.{Form}
use Rattle.sym_simplify.specs.Literal.{LiteralForm, always, never, keep, literal_form_of}
use Rattle.cert_rules.specs.Acceptance.{IsNegativeSum, Refutes, IsAccepted}
use Rattle.threat_certs.specs.Measuring.{on_side, on_sides, IsUnequalAt}

-- the parts and the bound stay whatever the side is
other-side : (f : LiteralForm) (o : Option Relation) (n : Form) (r s : Relation) (b : ℤ) → on_side f o ≡ keep n r b → keep n s b ≡ on_side f (Some s)
other-side always o n r s b e = absurd cc
other-side never o n r s b e = absurd cc
other-side (keep m q c) o n r s b e = cc

pub set_side : (ls : List LitForm) (os : List (Option Relation)) (i : ℕ) (n : Form) (r s : Relation) (b : ℤ) → length os ≡ length ls → slice_get (on_sides ls os) i ≡ Some (keep n r b)
    → slice_set (on_sides ls os) i (keep n s b) ≡ on_sides ls (slice_set os i (Some s))
set_side [] os i n r s b l e = absurd (none-some (keep n r b) e)
set_side (m ∷ ls) [] i n r s b l e = absurd (omega arith)
set_side (m ∷ ls) (o ∷ os) zero n r s b l e = ap (λ x. x ∷ on_sides ls os) (other-side (literal_form_of m) o n r s b (same_Some (on_side (literal_form_of m) o) (keep n r b) e))
set_side (m ∷ ls) (o ∷ os) (suc i) n r s b l e = ap (λ xs. on_side (literal_form_of m) o ∷ xs) (set_side ls os i n r s b (omega arith) e)

-- where nothing is split the literals stand as they are
no-side : (f : LiteralForm) → on_side f None ≡ f
no-side always = refl
no-side never = refl
no-side (keep n r b) = refl

pub no_sides : (ls : List LitForm) (os : List (Option Relation)) → ((i : ℕ) (o : Option Relation) → slice_get os i ≡ Some o → o ≡ None) → on_sides ls os ≡ map literal_form_of ls
no_sides [] os h = refl
no_sides (l ∷ ls) [] h = ap (λ xs. literal_form_of l ∷ xs) (no_sides ls [] (λ i o e. absurd (none-some o e)))
no_sides (l ∷ ls) (o ∷ os) h =
    ap (λ p. on_side (literal_form_of l) p ∷ on_sides ls os) (h 0 o refl)
    ∙ (ap (λ f. f ∷ on_sides ls os) (no-side (literal_form_of l)) ∙ ap (λ xs. literal_form_of l ∷ xs) (no_sides ls os (λ i p e. h (suc i) p e)))

module _ (places : List Place) (pc : ℕ) (ls : List LitForm) (os : List (Option Relation)) (same : length os ≡ length ls) (at depth : ℕ) (low high : Certificate) where
  abbrev pub IsRefutedOn : Relation → Certificate → Type 0
  IsRefutedOn side c = (nesting c ≤ depth - 1) × Refutes places pc (on_sides ls (slice_set os at (Some side))) c

  abbrev pub IsRefuted : Type 0
  IsRefuted = (nesting (split at low high) ≤ depth) × Refutes places pc (on_sides ls os) (split at low high)

  pub split_refuted : 1 ≤ depth → IsUnequalAt (on_sides ls os) at → IsRefutedOn Lt low → IsRefutedOn Gt high → IsRefuted
  split_refuted d (n, b, there) (k, first) (l, second) = (
    omega arith,
    (
      n,
      b,
      there,
      subst (λ fs. Refutes places pc fs low) (sym (set_side ls os at n Ne Lt b same there)) first,
      subst (λ fs. Refutes places pc fs high) (sym (set_side ls os at n Ne Gt b same there)) second,
    ),
  )

  pub low_refuted : IsRefuted → IsRefutedOn Lt low
  low_refuted (k, (n, b, there, first, second)) = (omega arith, subst (λ fs. Refutes places pc fs low) (set_side ls os at n Ne Lt b same there) first)

  pub high_refuted : IsRefuted → IsRefutedOn Gt high
  high_refuted (k, (n, b, there, first, second)) = (omega arith, subst (λ fs. Refutes places pc fs high) (set_side ls os at n Ne Gt b same there) second)

  abbrev pub IsRefutedBy : Certificate → Type 0
  IsRefutedBy whole = (nesting whole ≤ depth) × Refutes places pc (on_sides ls os) whole

  module _ (whole : Certificate) (cut : whole ≡ split at low high) where
    -- a certificate that is nested too deep, or splits another literal, refutes nothing
    pub too_deep : depth ≡ 0 → IsRefutedBy whole → ⊥
    too_deep e h = deep (subst IsRefutedBy cut h)
      where
        deep : IsRefuted → ⊥
        deep (k, x) = absurd (omega arith)

    pub other_literal : (IsUnequalAt (on_sides ls os) at → ⊥) → IsRefutedBy whole → ⊥
    other_literal none h = other (subst IsRefutedBy cut h)
      where
        other : IsRefuted → ⊥
        other (k, (n, b, there, first, second)) = none (n, b, there)

    pub low_fails : (IsRefutedOn Lt low → ⊥) → IsRefutedBy whole → ⊥
    low_fails none h = none (low_refuted (subst IsRefutedBy cut h))

    -- with the first side refuted, the second decides
    pub high_decides : {E : Type 0} (r : Result Bool E) → 1 ≤ depth → IsUnequalAt (on_sides ls os) at → IsRefutedOn Lt low → IfOk r (λ b. IsTrue b ↔ IsRefutedOn Gt high)
        → IfOk r (λ b. IsTrue b ↔ IsRefutedBy whole)
    high_decides (Ok b) d u first h = (λ t. subst IsRefutedBy (sym cut) (split_refuted d u first (h.0 t)), λ x. h.1 (high_refuted (subst IsRefutedBy cut x)))
    high_decides (Err e) d u first h = tt

-- a sum has no split inside
pub sum_decides : {E : Type 0} (places : List Place) (pc : ℕ) (fs : List LiteralForm) (shares : List Share) (depth : ℕ) (whole : Certificate) (r : Result Bool E) → whole ≡ sum shares
    → IfOk r (λ b. IsTrue b ↔ IsNegativeSum places pc fs shares) → IfOk r (λ b. IsTrue b ↔ ((nesting whole ≤ depth) × Refutes places pc fs whole))
sum_decides places pc fs shares depth whole (Ok b) e h = (
  λ t. subst (λ w. (nesting w ≤ depth) × Refutes places pc fs w) (sym e) (omega arith, h.0 t),
  λ x. h.1 (subst (λ w. (nesting w ≤ depth) × Refutes places pc fs w) e x).1,
)
sum_decides places pc fs shares depth whole (Err f) e h = tt

-- a `/=` stands among the literals
pub unequal_within : (ls : List LitForm) (os : List (Option Relation)) (i : ℕ) → IsUnequalAt (on_sides ls os) i → i < length ls
unequal_within [] os i (n, b, e) = absurd (none-some (keep n Ne b) e)
unequal_within (l ∷ ls) os zero h = omega arith
unequal_within (l ∷ ls) [] (suc i) h = let k = unequal_within ls [] i h in omega arith
unequal_within (l ∷ ls) (o ∷ os) (suc i) h = let k = unequal_within ls os i h in omega arith

-- the side that was looked at before is put back
pub restored : (os new : List (Option Relation)) (i : ℕ) (b o : Option Relation) → slice_get os i ≡ Some b → new ≡ slice_set os i o → slice_set new i b ≡ os
restored os new i b o e f =
    ap (λ xs. slice_set xs i b) f ∙ (set-set os i o b ∙ (ap (λ x. slice_set os i x) (sym (get_or_from_slice_get os i b b e)) ∙ set-get_or os i b))

-- where no literal is split, each stands as it is
pub unsplit : (ls : List LitForm) (os : List (Option Relation)) (n : ℕ) → os ≡ replicate n None → on_sides ls os ≡ map literal_form_of ls
unsplit ls os n e =
    no_sides ls os (λ i o f.
    let g : slice_get (replicate n None) i ≡ Some o = subst (λ xs. slice_get xs i ≡ Some o) e f in
    let l : i < n = omega (arith, slice_get_within (replicate n None) i o g, length-replicate {A = Option Relation} n None) in
    sym (get_or_from_slice_get (replicate n None) i o None g) ∙ get_or-replicate n i None None l)

-- the record of what is asked and the pair of its parts
pub accepted : {E : Type 0} (places : List Place) (pc : ℕ) (fs gs : List LiteralForm) (c : Certificate) (r : Result Bool E) → fs ≡ gs
    → IfOk r (λ b. IsTrue b ↔ ((nesting c ≤ 16) × Refutes places pc fs c)) → IfOk r (λ b. IsTrue b ↔ IsAccepted places pc gs c)
accepted places pc fs gs c (Ok b) e h = (
  λ t. let x = h.0 t in record { nested = x.0; refutes = subst (λ ls. Refutes places pc ls c) e x.1 },
  λ a. h.1 (a.nested, subst (λ ls. Refutes places pc ls c) (sym e) a.refutes),
)
accepted places pc fs gs c (Err e2) e h = tt
