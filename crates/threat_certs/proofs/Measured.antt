-- The totals of items are the normal terms of their quantities.
use Rattle.std.proofs.Common.{◌≡◌, ◌∙◌, refl, sym, ap, subst, ℕ, zero, suc, ◌+◌, ◌^◌, ◌≤◌, ℤ, pos, negsuc, neg_ℤ, ◌+ℤ◌, unsigned_abs, Option, Some, None, Result, Ok, Err, IfOk, List, [], ◌∷◌, ◌++◌, length, get_or, slice_get, All, arith}
use Rattle.std.proofs.Math.IntN.{+ℤ_idr}
use Rattle.std.proofs.lemmas.Option.{same_Some, none-some, get_or_from_slice_get, slice_get_within, slice_get-get_or}
use Rattle.std.specs.declared.cmp.Ordering.{Ordering}
use Rattle.std.specs.declared.cmp.Ordering.TheVariants.{Less, Equal, Greater}
use Rattle.il_core.specs.declared.line.Place.{Place}
use Rattle.il_core.specs.declared.operator.Relation.{Relation}
use Rattle.il_core.specs.declared.certificate.Item.TheVariants.{Up, Down, Never, Low, High, OldUp, OldDown}
use Rattle.sym_simplify.specs.declared.normal.LitForm.{LitForm}
use Rattle.sym_simplify.specs.declared.normal.LitForm.TheVariants as lit
use Rattle.sym_simplify.specs.Form.{Form, constant, part, place}
use Rattle.sym_simplify.specs.Norm.{Summand, alone, often, before, insert, beside, normal_of}
use Rattle.sym_simplify.specs.Order.{factor_cmp}
use Rattle.sym_simplify.specs.Literal.{LiteralForm, always, never, keep, literal_form_of}
use Rattle.sym_simplify.specs.Merge.{merge}
use Rattle.sym_simplify.specs.Easy.{IsKept}
use Rattle.sym_simplify.proofs.Merges.{normal_append}
use Rattle.threat_certs.specs.declared.adding.Total.{Total}
use Rattle.threat_certs.specs.Adding.{AreNumbersWithin, total_in}
use Rattle.threat_certs.specs.Measuring.{on_side, on_sides, IsNormalOf, IsMeasured, IsNeverOf}
use Rattle.cert_rules.specs.Quantity.{highest, lowest, less, IsUp, IsDown, IsCopyOf, IsQuantity}
use Rattle.threat_certs.proofs.Numbers.{within_more}
use Rattle.threat_certs.proofs.Single.{highest_of, lowest_of}

-- what is measured for some summands is measured for the same summands otherwise described
pub measured_as : (k : ℕ) (P Q : List Summand → Type 0) (o : Option Total) → ((q : List Summand) → P q → Q q) → ((q : List Summand) → Q q → P q) → IsMeasured k P o → IsMeasured k Q o
measured_as k P Q None f g h = λ q i. h q (g q i)
measured_as k P Q (Some t) f g h = record { summands = h.summands; are = f h.summands h.are; form = h.form; small = h.small }

module _ (ls : List LitForm) where
  pub get_side : (os : List (Option Relation)) (i : ℕ) (l : LitForm) (o : Option Relation) → slice_get ls i ≡ Some l → slice_get os i ≡ Some o
      → slice_get (on_sides ls os) i ≡ Some (on_side (literal_form_of l) o)
  get_side os i l o e f = go ls os i e f
    where
      go : (ms : List LitForm) (ps : List (Option Relation)) (j : ℕ) → slice_get ms j ≡ Some l → slice_get ps j ≡ Some o → slice_get (on_sides ms ps) j ≡ Some (on_side (literal_form_of l) o)
      go [] ps j g h = absurd (none-some l g)
      go (m ∷ ms) [] j g h = absurd (none-some o h)
      go (m ∷ ms) (p ∷ ps) zero g h = rw (same_Some m l g, same_Some p o h) refl
      go (m ∷ ms) (p ∷ ps) (suc j) g h = go ms ps j g h

pub sides_past : (ls : List LitForm) (os : List (Option Relation)) (i : ℕ) → slice_get ls i ≡ None → slice_get (on_sides ls os) i ≡ None
sides_past [] os i e = refl
sides_past (l ∷ ls) [] zero e = absurd (none-some l (sym e))
sides_past (l ∷ ls) [] (suc i) e = sides_past ls [] i e
sides_past (l ∷ ls) (o ∷ os) zero e = absurd (none-some l (sym e))
sides_past (l ∷ ls) (o ∷ os) (suc i) e = sides_past ls os i e

pub side_kept : (f : LiteralForm) (o : Option Relation) → IsKept f → IsKept (on_side f o)
side_kept always o h = tt
side_kept never o h = tt
side_kept (keep n r b) o h = h

module _ (places : List Place) (pc : ℕ) (fs : List LiteralForm) (i : ℕ) (f : LiteralForm) (there : slice_get fs i ≡ Some f) where
  pub up_at : (k : ℕ) (o : Option Total) → IsMeasured k (IsUp f) o → IsMeasured k (IsQuantity places pc fs (Up i)) o
  up_at k o h =
      measured_as k (IsUp f) (IsQuantity places pc fs (Up i)) o (λ q u. (f, there, u))
      (λ q (g, e, u). subst (λ x. IsUp x q) (same_Some g f (sym e ∙ there)) u) h

  pub down_at : (k : ℕ) (o : Option Total) → IsMeasured k (IsDown f) o → IsMeasured k (IsQuantity places pc fs (Down i)) o
  down_at k o h =
      measured_as k (IsDown f) (IsQuantity places pc fs (Down i)) o (λ q u. (f, there, u))
      (λ q (g, e, u). subst (λ x. IsDown x q) (same_Some g f (sym e ∙ there)) u) h

module _ (places : List Place) (pc : ℕ) (fs : List LiteralForm) (i : ℕ) (none : (n : Form) (r : Relation) (b : ℤ) → slice_get fs i ≡ Some (keep n r b) → ⊥) where
  pub no_up_at : (q : List Summand) → IsQuantity places pc fs (Up i) q → ⊥
  no_up_at q (f, e, u) = none u.parts u.relation u.bound (e ∙ ap Some u.kept)

  pub no_down_at : (q : List Summand) → IsQuantity places pc fs (Down i) q → ⊥
  no_down_at q (f, e, u) = none u.parts u.relation u.bound (e ∙ ap Some u.kept)

pub no_up : (n : Form) (r : Relation) (b : ℤ) → highest r b ≡ None → (q : List Summand) → IsUp (keep n r b) q → ⊥
no_up n r b e q u = none-some u.most (sym e ∙ (ap highest_of u.kept ∙ u.allowed))

pub no_down : (n : Form) (r : Relation) (b : ℤ) → lowest r b ≡ None → (q : List Summand) → IsDown (keep n r b) q → ⊥
no_down n r b e q u = none-some u.fewest (sym e ∙ (ap lowest_of u.kept ∙ u.allowed))

pub low_measured : (places : List Place) (pc : ℕ) (fs : List LiteralForm) (p : ℕ) (at : Place) (c : ℤ) (n : Form) → slice_get places p ≡ Some at → c ≡ neg_ℤ at.least → unsigned_abs c ≤ 2 ^ 63
    → n ≡ part (pos 1) (place p) (constant c) → IsNormalOf (2 ^ 101) (IsQuantity places pc fs (Low p)) n
low_measured places pc fs p at c n there e s f = record {
  summands = often (pos 1) (place p) ∷ alone c ∷ [];
  are = (at, there, ap (λ x. often (pos 1) (place p) ∷ alone x ∷ []) e);
  form = f ∙ ap (λ x. part (pos 1) (place p) (constant x)) (sym (+ℤ_idr c));
  small = subst (λ x. AreNumbersWithin (2 ^ 101) x) (sym f) (omega arith, omega arith);
}

pub high_measured : (places : List Place) (pc : ℕ) (fs : List LiteralForm) (p : ℕ) (at : Place) (c : ℤ) (n : Form) → slice_get places p ≡ Some at → c ≡ at.greatest → unsigned_abs c ≤ 2 ^ 63
    → n ≡ part (negsuc 0) (place p) (constant c) → IsNormalOf (2 ^ 101) (IsQuantity places pc fs (High p)) n
high_measured places pc fs p at c n there e s f = record {
  summands = often (negsuc 0) (place p) ∷ alone c ∷ [];
  are = (at, there, ap (λ x. often (negsuc 0) (place p) ∷ alone x ∷ []) e);
  form = f ∙ ap (λ x. part (negsuc 0) (place p) (constant x)) (sym (+ℤ_idr c));
  small = subst (λ x. AreNumbersWithin (2 ^ 101) x) (sym f) (omega arith, omega arith);
}

pub no_low : (places : List Place) (pc : ℕ) (fs : List LiteralForm) (p : ℕ) → slice_get places p ≡ None → (q : List Summand) → IsQuantity places pc fs (Low p) q → ⊥
no_low places pc fs p e q (at, there, f) = none-some at (sym e ∙ there)

pub no_high : (places : List Place) (pc : ℕ) (fs : List LiteralForm) (p : ℕ) → slice_get places p ≡ None → (q : List Summand) → IsQuantity places pc fs (High p) q → ⊥
no_high places pc fs p e q (at, there, f) = none-some at (sym e ∙ there)

pub less_merged : (l r : ℕ) → merge (part (pos 1) (place l) (constant (pos 0))) (part (negsuc 0) (place r) (constant (pos 0))) ≡ normal_of (less l r)
less_merged l r = sym (normal_append (often (pos 1) (place l) ∷ []) (often (negsuc 0) (place r) ∷ []))

less-within : (o : Ordering) (l r : ℕ) → AreNumbersWithin (2 ^ 101) (beside o (pos 1) (place l) (negsuc 0) (place r) (constant (pos 0)) (part (pos 1) (place l) (constant (pos 0))))
less-within Less l r = (omega arith, (omega arith, omega arith))
less-within Equal l r = omega arith
less-within Greater l r = (omega arith, (omega arith, omega arith))

pub less_small : (l r : ℕ) → AreNumbersWithin (2 ^ 101) (normal_of (less l r))
less_small l r = less-within (factor_cmp (place l) (place r)) l r

module _ (places : List Place) (pc : ℕ) (fs : List LiteralForm) (v p : ℕ) (first : pc ≡ 0) (copy : IsCopyOf places v p) where
  pub rising_measured : (n : Form) → n ≡ normal_of (less v p) → IsNormalOf (2 ^ 101) (IsQuantity places pc fs (OldUp p)) n
  rising_measured n e = record {
    summands = less v p;
    are = (first, (v, copy, refl));
    form = e;
    small = subst (λ x. AreNumbersWithin (2 ^ 101) x) (sym e) (less_small v p);
  }

  pub falling_measured : (n : Form) → n ≡ normal_of (less p v) → IsNormalOf (2 ^ 101) (IsQuantity places pc fs (OldDown p)) n
  falling_measured n e = record {
    summands = less p v;
    are = (first, (v, copy, refl));
    form = e;
    small = subst (λ x. AreNumbersWithin (2 ^ 101) x) (sym e) (less_small p v);
  }

module _ (places : List Place) (pc : ℕ) (fs : List LiteralForm) (p : ℕ) (none : (v : ℕ) → IsCopyOf places v p → ⊥) where
  pub no_rising : (q : List Summand) → IsQuantity places pc fs (OldUp p) q → ⊥
  no_rising q (z, (v, copy, e)) = none v copy

  pub no_falling : (q : List Summand) → IsQuantity places pc fs (OldDown p) q → ⊥
  no_falling q (z, (v, copy, e)) = none v copy

pub kept_at : (ls : List LitForm) (i : ℕ) (l : LitForm) → All (λ m. IsKept (literal_form_of m)) ls → slice_get ls i ≡ Some l → IsKept (literal_form_of l)
kept_at ls i l h e = subst (λ m. IsKept (literal_form_of m)) (get_or_from_slice_get ls i l l e) (h i l (slice_get_within ls i l e))

pub never_measured : (f : LiteralForm) (n : Form) → f ≡ never → n ≡ constant (negsuc 0) → IsNormalOf (2 ^ 101) (IsNeverOf f) n
never_measured f n e g = record {
  summands = alone (negsuc 0) ∷ [];
  are = (e, refl);
  form = g;
  small = subst (λ x. AreNumbersWithin (2 ^ 101) x) (sym g) (omega arith);
}

-- a literal never holds on a side exactly where it never holds
never-side : (f : LiteralForm) (o : Option Relation) → on_side f o ≡ never → f ≡ never
never-side always o e = absurd cc
never-side never o e = refl
never-side (keep n r b) o e = absurd cc

side-never : (f : LiteralForm) (o : Option Relation) → f ≡ never → on_side f o ≡ never
side-never f o e = ap (λ g. on_side g o) e

module _ (places : List Place) (pc : ℕ) (ls : List LitForm) (os : List (Option Relation)) (same : length os ≡ length ls) (i : ℕ) where
  pub never_at : (l : LitForm) (o : Option Total) → slice_get ls i ≡ Some l → IsMeasured (2 ^ 101) (IsNeverOf (literal_form_of l)) o → IsMeasured (2 ^ 101) (IsQuantity places pc (on_sides ls os) (Never i)) o
  never_at l o e h =
      let s : slice_get os i ≡ Some (get_or os i None) = slice_get-get_or os i None (omega (arith, slice_get_within ls i l e)) in
      let there = get_side ls os i l (get_or os i None) e s in
      measured_as (2 ^ 101) (IsNeverOf (literal_form_of l)) (IsQuantity places pc (on_sides ls os) (Never i)) o
      (λ q (f, g). (there ∙ ap Some (side-never (literal_form_of l) (get_or os i None) f), g))
      (λ q (f, g). (never-side (literal_form_of l) (get_or os i None) (same_Some (on_side (literal_form_of l) (get_or os i None)) never (sym there ∙ f)), g)) h

  pub no_never_at : slice_get ls i ≡ None → (q : List Summand) → IsQuantity places pc (on_sides ls os) (Never i) q → ⊥
  no_never_at e q (f, g) = none-some never (sym (sides_past ls os i e) ∙ f)

pub no_comparison : (ls : List LitForm) (os : List (Option Relation)) (i : ℕ) → slice_get ls i ≡ None → (n : Form) (r : Relation) (b : ℤ) → slice_get (on_sides ls os) i ≡ Some (keep n r b) → ⊥
no_comparison ls os i e n r b f = none-some (keep n r b) (sym (sides_past ls os i e) ∙ f)

-- the same where memory may have run out
module _ {E : Type 0} (places : List Place) (pc : ℕ) (fs : List LiteralForm) (i : ℕ) (f : LiteralForm) (there : slice_get fs i ≡ Some f) where
  pub up_found : (k : ℕ) (r : Result (Option Total) E) → IfOk r (IsMeasured k (IsUp f)) → IfOk r (IsMeasured k (IsQuantity places pc fs (Up i)))
  up_found k (Ok o) h = up_at places pc fs i f there k o h
  up_found k (Err e) h = tt

  pub down_found : (k : ℕ) (r : Result (Option Total) E) → IfOk r (IsMeasured k (IsDown f)) → IfOk r (IsMeasured k (IsQuantity places pc fs (Down i)))
  down_found k (Ok o) h = down_at places pc fs i f there k o h
  down_found k (Err e) h = tt
