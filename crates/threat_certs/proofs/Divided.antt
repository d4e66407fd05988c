-- The divided parts of a literal with the quotient of its bound are the normal term of its quantity.
use Rattle.std.proofs.Common.{◌≡◌, ◌≢◌, ◌∙◌, refl, sym, ap, subst, ℕ, ◌+◌, ◌*◌, ◌^◌, ◌≤◌, ℤ, pos, negsuc, neg_ℤ, ◌+ℤ◌, ◌-ℤ◌, ◌*ℤ◌, ◌<ℤ◌, unsigned_abs, Bool, true, false, if◌then◌else◌, Some, List, [], ◌∷◌, ◌++◌, map, length, drop, slice_get, arith}
use Rattle.std.proofs.Math.IntN.{+ℤ_idr, +ℤ_idl, *ℤ-zero}
use Rattle.std.proofs.lemmas.Int.{ints}
use Rattle.std.proofs.lemmas.List.{drop_all}
use Rattle.std.proofs.lemmas.Option.{same_Some, none-some}
use Rattle.std.specs.Ordering.{int_eq}
use Rattle.std.specs.Int.{int_div_euclid}
use Rattle.std.specs.declared.cmp.Ordering.{Ordering}
use Rattle.std.specs.declared.cmp.Ordering.TheVariants.{Less, Equal, Greater}
use Rattle.il_core.specs.declared.operator.Relation.{Relation}
use Rattle.il_core.specs.declared.operator.Relation.TheVariants.{Eq, Ne, Lt, Le, Gt, Ge}
use Rattle.il_core.proofs.Integers.{quotient-abs}
use Rattle.sym_simplify.specs.declared.normal.Normal.{Normal, out-Normal}
use Rattle.sym_simplify.specs.declared.normal.Part.{Part}
use Rattle.sym_simplify.specs.Form.{Form, constant, part, Factor}
use Rattle.sym_simplify.specs.Held.{factor_of, form_of, parts_before}
use Rattle.sym_simplify.specs.Norm.{Summand, alone, often, scaled, before, shift, insert, beside, normal_of}
use Rattle.sym_simplify.specs.Normal.{IsNormal, IsBelow, IsOrdered, constant_of}
use Rattle.sym_simplify.specs.Order.{factor_cmp}
use Rattle.sym_simplify.specs.Merge.{scale_parts, scale}
use Rattle.sym_simplify.specs.Literal.{keep, BeginsAboveZero}
use Rattle.sym_simplify.specs.Easy.{AreCoefficientsWithin, IsKept}
use Rattle.sym_simplify.proofs.HeldParts.{held}
use Rattle.sym_simplify.proofs.Merges.{normal_scaled}
use Rattle.sym_simplify.proofs.OpenParts.{drop_first}
use Rattle.threat_certs.specs.declared.adding.Counted.{Counted}
use Rattle.threat_certs.specs.Adding.{divided, factor_in, counted_before, AreNumbersWithin}
use Rattle.threat_certs.specs.Measuring.{IsNormalOf}
use Rattle.cert_rules.specs.Quantity.{highest, lowest, summands_in, times_and, IsReduced, IsUp, IsDown}
use Rattle.threat_certs.proofs.Counted.{before_push}
use Rattle.threat_certs.proofs.Numbers.{within_more, scale_within, divided_within, coefficients_more}

before-by : (c : ℤ) (a : Factor) (n : Form) (b : Bool) → b ≡ false → (if b then n else part c a n) ≡ part c a n
before-by c a n true e = absurd cc
before-by c a n false e = refl

not-zero-test : (c : ℤ) → c ≢ pos 0 → int_eq c (pos 0) ≡ false
not-zero-test c h = grind (arith, ints)

beside-less : (o : Ordering) (c : ℤ) (a : Factor) (d : ℤ) (b : Factor) (n later : Form) → o ≡ Less → c ≢ pos 0 → beside o c a d b n later ≡ part c a (part d b n)
beside-less Less c a d b n later e h = before-by c a (part d b n) (int_eq c (pos 0)) (not-zero-test c h)
beside-less Equal c a d b n later e h = absurd cc
beside-less Greater c a d b n later e h = absurd cc

insert-first : (c : ℤ) (a : Factor) (n : Form) → c ≢ pos 0 → IsBelow a n → insert c a n ≡ part c a n
insert-first c a (constant d) h k = before-by c a (constant d) (int_eq c (pos 0)) (not-zero-test c h)
insert-first c a (part d b n) h k = beside-less (factor_cmp a b) c a d b n (insert c a n) k h

normal-summands : (n : Form) → IsOrdered n → normal_of (summands_in n) ≡ n
normal-summands (constant c) h = ap constant (+ℤ_idr c)
normal-summands (part c a n) h = ap (insert c a) (normal-summands n h.2) ∙ insert-first c a n h.0 h.1

-- the parts of a multiple that ascend ascend before they are multiplied
factor-not_zero : (g c : ℤ) → g *ℤ c ≢ pos 0 → c ≢ pos 0
factor-not_zero g c h e = h (ap (λ x. g *ℤ x) e ∙ *ℤ-zero g)

below-multiple : (x : Factor) (g : ℤ) (m : Form) → IsBelow x (scale_parts g m) → IsBelow x m
below-multiple x g (constant c) h = tt
below-multiple x g (part c a m) h = h

ordered-multiple : (g : ℤ) (m : Form) → IsOrdered (scale_parts g m) → IsOrdered m
ordered-multiple g (constant c) h = tt
ordered-multiple g (part c a m) h = (factor-not_zero g c h.0, below-multiple a g m h.1, ordered-multiple g m h.2)

normal-ordered : (n : Form) → IsNormal n → IsOrdered n
normal-ordered (constant c) h = tt
normal-ordered (part c a n) h = (h.0, h.1, normal-ordered n h.3)

once-number : (d : ℤ) → d +ℤ (pos 1 *ℤ pos 0) ≡ d
once-number d = grind (arith, ints)

once-times : (c : ℤ) → pos 1 *ℤ c ≡ c
once-times c = grind (arith, ints)

minus-number : (d : ℤ) → d +ℤ (negsuc 0 *ℤ pos 0) ≡ negsuc 0 *ℤ neg_ℤ d
minus-number d = grind (arith, ints)

shift-once : (g d : ℤ) (n : Form) → shift d (scale_parts (pos 1) (divided g (pos 0) n)) ≡ divided g d n
shift-once g d (constant c) = ap constant (once-number d)
shift-once g d (part c a n) =
    ap (λ x. part x a (shift d (scale_parts (pos 1) (divided g (pos 0) n)))) (once-times (int_div_euclid c g)) ∙ ap (part (int_div_euclid c g) a) (shift-once g d n)

shift-minus : (g d : ℤ) (n : Form) → shift d (scale_parts (negsuc 0) (divided g (pos 0) n)) ≡ scale_parts (negsuc 0) (divided g (neg_ℤ d) n)
shift-minus g d (constant c) = ap constant (minus-number d)
shift-minus g d (part c a n) = ap (part (negsuc 0 *ℤ int_div_euclid c g) a) (shift-minus g d n)

module _ (n : Form) (g : ℤ) (normal : IsNormal n) (reduced : IsReduced n (unsigned_abs g) (divided g (pos 0) n)) where
  ordered : IsOrdered (divided g (pos 0) n)
  ordered = ordered-multiple (pos (unsigned_abs g)) (divided g (pos 0) n) (subst IsOrdered (sym reduced.multiple) (normal-ordered n normal))

  scaled-normal : (c : ℤ) → normal_of (map (scaled c) (summands_in (divided g (pos 0) n))) ≡ scale c (divided g (pos 0) n)
  scaled-normal c = normal_scaled c (summands_in (divided g (pos 0) n)) ∙ ap (scale c) (normal-summands (divided g (pos 0) n) ordered)

  down-normal : (d : ℤ) → divided g d n ≡ normal_of (times_and (pos 1) (divided g (pos 0) n) d)
  down-normal d = sym (ap (shift d) (scaled-normal (pos 1)) ∙ shift-once g d n)

  up-normal : (d : ℤ) → scale_parts (negsuc 0) (divided g (neg_ℤ d) n) ≡ normal_of (times_and (negsuc 0) (divided g (pos 0) n) d)
  up-normal d = sym (ap (shift d) (scaled-normal (negsuc 0)) ∙ shift-minus g d n)

above-same : (g : ℤ) → pos 0 <ℤ g → g ≡ pos (unsigned_abs g)
above-same g h = grind (arith, ints)

above-not_zero : (g : ℤ) → pos 0 <ℤ g → g ≢ pos 0
above-not_zero g h e = absurd (omega (arith, ints))

quotient-small : (x g : ℤ) (k : ℕ) → g ≢ pos 0 → unsigned_abs x ≤ k → unsigned_abs (int_div_euclid x g) ≤ k
quotient-small x g k h l = let q = quotient-abs x g h in omega arith

neg-abs : (x : ℤ) (k : ℕ) → unsigned_abs x ≤ k → unsigned_abs (neg_ℤ x) ≤ k
neg-abs x k h = grind (arith, ints)

abs-less : (b : ℤ) (k : ℕ) → unsigned_abs b ≤ k → unsigned_abs (b -ℤ pos 1) ≤ k + 1
abs-less b k h = omega (arith, ints)

abs-more : (b : ℤ) (k : ℕ) → unsigned_abs b ≤ k → unsigned_abs (b +ℤ pos 1) ≤ k + 1
abs-more b k h = omega (arith, ints)

highest-small : (r : Relation) (b x : ℤ) (k : ℕ) → highest r b ≡ Some x → unsigned_abs b ≤ k → unsigned_abs x ≤ k + 1
highest-small Eq b x k e h = subst (λ y. unsigned_abs y ≤ k + 1) (same_Some b x e) (omega arith)
highest-small Ne b x k e h = absurd (none-some x e)
highest-small Lt b x k e h = subst (λ y. unsigned_abs y ≤ k + 1) (same_Some (b -ℤ pos 1) x e) (abs-less b k h)
highest-small Le b x k e h = subst (λ y. unsigned_abs y ≤ k + 1) (same_Some b x e) (omega arith)
highest-small Gt b x k e h = absurd (none-some x e)
highest-small Ge b x k e h = absurd (none-some x e)

lowest-small : (r : Relation) (b x : ℤ) (k : ℕ) → lowest r b ≡ Some x → unsigned_abs b ≤ k → unsigned_abs x ≤ k + 1
lowest-small Eq b x k e h = subst (λ y. unsigned_abs y ≤ k + 1) (same_Some b x e) (omega arith)
lowest-small Ne b x k e h = absurd (none-some x e)
lowest-small Lt b x k e h = absurd (none-some x e)
lowest-small Le b x k e h = absurd (none-some x e)
lowest-small Gt b x k e h = subst (λ y. unsigned_abs y ≤ k + 1) (same_Some (b +ℤ pos 1) x e) (abs-more b k h)
lowest-small Ge b x k e h = subst (λ y. unsigned_abs y ≤ k + 1) (same_Some b x e) (omega arith)

module _ (n : Form) (r : Relation) (b g : ℤ) (kept : IsKept (keep n r b)) (above : pos 0 <ℤ g) (reduced : IsReduced n (unsigned_abs g) (divided g (pos 0) n)) where
  -- the divided parts and a small quotient are small
  quotients_small : (d : ℤ) → unsigned_abs d ≤ 2 ^ 101 → AreNumbersWithin (2 ^ 101) (divided g d n)
  quotients_small d h = divided_within (2 ^ 101) g d n (above-not_zero g above) h (coefficients_more (2 ^ 100) (2 ^ 101) n (omega arith) kept.3)

  pub up_small : (most : ℤ) → highest r b ≡ Some most → AreNumbersWithin (2 ^ 101) (divided g (neg_ℤ (int_div_euclid most g)) n)
  up_small most e =
      quotients_small (neg_ℤ (int_div_euclid most g))
      (neg-abs (int_div_euclid most g) (2 ^ 101) (quotient-small most g (2 ^ 101) (above-not_zero g above) (let l = highest-small r b most (2 ^ 100) e kept.4 in omega arith)))

  pub down_measured : (fewest : ℤ) (m : Form) → lowest r b ≡ Some fewest → m ≡ divided g (int_div_euclid (neg_ℤ fewest) g) n → IsNormalOf (2 ^ 101) (IsDown (keep n r b)) m
  down_measured fewest m e f = record {
    summands = times_and (pos 1) (divided g (pos 0) n) (int_div_euclid (neg_ℤ fewest) g);
    are = record {
      parts = n;
      relation = r;
      bound = b;
      kept = refl;
      fewest = fewest;
      allowed = e;
      factor = unsigned_abs g;
      reduced = divided g (pos 0) n;
      divided = reduced;
      quantity = ap (λ x. times_and (pos 1) (divided g (pos 0) n) (int_div_euclid (neg_ℤ fewest) x)) (above-same g above);
    };
    form = f ∙ down-normal n g kept.0 reduced (int_div_euclid (neg_ℤ fewest) g);
    small = subst (λ x. AreNumbersWithin (2 ^ 101) x) (sym f) (quotients_small (int_div_euclid (neg_ℤ fewest) g)
        (quotient-small (neg_ℤ fewest) g (2 ^ 101) (above-not_zero g above) (neg-abs fewest (2 ^ 101) (let l = lowest-small r b fewest (2 ^ 100) e kept.4 in omega arith))));
  }

  pub up_measured : (most : ℤ) (m : Form) → highest r b ≡ Some most → m ≡ scale_parts (negsuc 0) (divided g (neg_ℤ (int_div_euclid most g)) n) → IsNormalOf (2 ^ 101) (IsUp (keep n r b)) m
  up_measured most m e f = record {
    summands = times_and (negsuc 0) (divided g (pos 0) n) (int_div_euclid most g);
    are = record {
      parts = n;
      relation = r;
      bound = b;
      kept = refl;
      most = most;
      allowed = e;
      factor = unsigned_abs g;
      reduced = divided g (pos 0) n;
      divided = reduced;
      quantity = ap (λ x. times_and (negsuc 0) (divided g (pos 0) n) (int_div_euclid most x)) (above-same g above);
    };
    form = f ∙ up-normal n g kept.0 reduced (int_div_euclid most g);
    small = subst (λ x. AreNumbersWithin (2 ^ 101) x) (sym f)
        (within_more (1 * 2 ^ 101) (2 ^ 101) (scale_parts (negsuc 0) (divided g (neg_ℤ (int_div_euclid most g)) n)) (omega arith)
        (scale_within 1 (2 ^ 101) (negsuc 0) (divided g (neg_ℤ (int_div_euclid most g)) n) (omega arith) (up_small most e)));
  }

-- the parts divided so far, before those that are left
pub divided_start : (n : Normal) (ps : List Part) (g d : ℤ) → ps ≡ (out-Normal n).parts
    → counted_before [] (divided g d (parts_before (drop 0 ps) (constant (out-Normal n).constant))) ≡ divided g d (form_of n)
divided_start n ps g d e = ap (divided g d) (ap (λ xs. parts_before xs (constant (out-Normal n).constant)) e ∙ sym (held n))

pub divided_step : (out : List Counted) (p : Counted) (ps : List Part) (i : ℕ) (r : Part) (g d c : ℤ) (m : Form) → slice_get ps i ≡ Some r
    → p.coefficient ≡ int_div_euclid r.coefficient g → factor_in p.factor ≡ factor_of r.atom
    → counted_before out (divided g d (parts_before (drop i ps) (constant c))) ≡ m → counted_before (out ++ p ∷ []) (divided g d (parts_before (drop (i + 1) ps) (constant c))) ≡ m
divided_step out p ps i r g d c m e f h k =
    before_push out p (divided g d (parts_before (drop (i + 1) ps) (constant c)))
    ∙ (ap (counted_before out) (rw (f, h) (ap (λ xs. divided g d (parts_before xs (constant c))) (sym (drop_first ps i r e)))) ∙ k)

pub divided_end : (out : List Counted) (ps : List Part) (i : ℕ) (g d c : ℤ) (m : Form) → length ps ≤ i
    → counted_before out (divided g d (parts_before (drop i ps) (constant c))) ≡ m → counted_before out (constant d) ≡ m
divided_end out ps i g d c m l h = ap (λ xs. counted_before out (divided g d (parts_before xs (constant c)))) (sym (drop_all i ps l)) ∙ h

-- a number that a literal allows is small
pub most_small : (r : Relation) (b x : ℤ) → highest r b ≡ Some x → unsigned_abs b ≤ 2 ^ 100 → unsigned_abs x ≤ 2 ^ 101
most_small r b x e h = let l = highest-small r b x (2 ^ 100) e h in omega arith

pub fewest_small : (r : Relation) (b x : ℤ) → lowest r b ≡ Some x → unsigned_abs b ≤ 2 ^ 100 → unsigned_abs x ≤ 2 ^ 101
fewest_small r b x e h = let l = lowest-small r b x (2 ^ 100) e h in omega arith
