-- What a form asks of the places is met exactly where the form holds, if it is easy and no disequality.
use Rattle.std.proofs.Common.{◌≡◌, ◌∙◌, inl, inr, refl, sym, ap, subst, ℕ, ◌<◌, ℤ, pos, negsuc, neg_ℤ, ◌+ℤ◌, ◌-ℤ◌, ◌*ℤ◌, ◌≤ℤ◌, ◌<ℤ◌, Bool, true, false, not, ◌&&◌, cond, [], ◌∷◌, Option, Some, None, is_some, arith}
use Rattle.std.specs.Prelude.{int_lt, int_le}
use Rattle.std.specs.Int.{int_div_euclid}
use Rattle.std.specs.Ordering.{int_eq}
use Rattle.std.proofs.lemmas.Int.{ints}
use Rattle.std.proofs.lemmas.Option.{same_Some, none-some}
use Rattle.std.proofs.Math.IntN.{*ℤ-zero}
use Rattle.il_core.specs.Evaluation.{State, value_at, compares}
use Rattle.il_core.specs.LineGraph.{IsIn}
use Rattle.il_core.specs.declared.operator.Relation.{Relation}
use Rattle.il_core.specs.declared.operator.Relation.TheVariants.{Eq, Ne, Lt, Le, Gt, Ge}
use Rattle.il_core.proofs.Integers.{product-swap}
use Rattle.il_core.proofs.Quotients.{most-multiple, multiple-most, least-multiple, multiple-least}
use Rattle.sym_simplify.specs.Form.{Form, constant, part, place, pair, form_value}
use Rattle.sym_simplify.specs.Normal.{constant_of}
use Rattle.sym_simplify.specs.Literal.{LiteralForm, always, never, keep, form_holds, BeginsAboveZero}
use Rattle.sym_simplify.specs.Places.{HasFormPlacesBelow}
use Rattle.sym_simplify.specs.Easy.{is_easy, is_other_than, is_unequal, single, double, multiple_of, IsKept}
use Rattle.sym_simplify.specs.declared.easy.Multiple.{Multiple}
use Rattle.sym_simplify.proofs.NormValues.{sum-times}
use Rattle.difference.specs.Constraints.{IsUnknown, Meets}
use Rattle.difference.specs.Constraints as difference
use Rattle.difference.specs.declared.constraint.Constraint.{Constraint}
use Rattle.path_inputs.specs.Core.{is_plain}
use Rattle.path_inputs.specs.Bounding.{at_most, at_least, relation_reading, multiple_reading, constraints_in, constraints_of}

-- the places of a multiple, the one less the other
abbrev pub apart : Multiple → State → ℤ
apart m s = value_at s m.left -ℤ difference.value_at s m.right

times-negated : (c x : ℤ) → c *ℤ neg_ℤ x ≡ neg_ℤ (c *ℤ x)
times-negated c x =
    let e : x +ℤ neg_ℤ x ≡ pos 0 = omega (arith, ints) in
    let f : (c *ℤ x) +ℤ (c *ℤ neg_ℤ x) ≡ pos 0 = sym (sum-times c x (neg_ℤ x)) ∙ (ap (λ v. c *ℤ v) e ∙ *ℤ-zero c) in
    omega (arith, ints)

single-value : (c v d : ℤ) → d ≡ pos 0 → (c *ℤ v) +ℤ d ≡ c *ℤ (v -ℤ pos 0)
single-value c v d e =
    let f : v -ℤ pos 0 ≡ v = omega (arith, ints) in
    let g : c *ℤ (v -ℤ pos 0) ≡ c *ℤ v = ap (λ x. c *ℤ x) f in
    omega (arith, ints)

double-value : (c e v w d : ℤ) → e ≡ neg_ℤ c → d ≡ pos 0 → (c *ℤ v) +ℤ ((e *ℤ w) +ℤ d) ≡ c *ℤ (v -ℤ w)
double-value c e v w d f g =
    let h : c *ℤ (v -ℤ w) ≡ c *ℤ (v +ℤ neg_ℤ w) = ap (λ x. c *ℤ x) (difference-sum v w) in
    let i : c *ℤ (v +ℤ neg_ℤ w) ≡ (c *ℤ v) +ℤ (c *ℤ neg_ℤ w) = sum-times c v (neg_ℤ w) in
    let j = times-negated c w in
    let k : e *ℤ w ≡ neg_ℤ (c *ℤ w) = ap (λ x. x *ℤ w) f ∙ (product-swap (neg_ℤ c) w ∙ (times-negated w c ∙ ap neg_ℤ (product-swap w c))) in
    omega (arith, ints)
  where
    difference-sum : (a b : ℤ) → a -ℤ b ≡ a +ℤ neg_ℤ b
    difference-sum a b = omega (arith, ints)

-- what a multiple is, with its coefficient above 0 and its places below k
pub record IsMultiple (n : Form) (m : Multiple) : Type 0 where
  pub above : BeginsAboveZero n → pos 0 <ℤ m.coefficient
  pub value : (s : State) → constant_of n ≡ pos 0 → form_value n s ≡ m.coefficient *ℤ apart m s
  pub left : (k : ℕ) → HasFormPlacesBelow k n → m.left < k
  pub right : (k : ℕ) → HasFormPlacesBelow k n → IsUnknown k m.right

single-is : (c : ℤ) (p : ℕ) (d : ℤ) → IsMultiple (part c (place p) (constant d)) (single c p)
single-is c p d = record {
  above = λ h. h;
  value = λ s e. single-value c (value_at s p) d e;
  left = λ k h. h.0;
  right = λ k h. tt;
}

double-is : (c : ℤ) (p : ℕ) (e : ℤ) (q : ℕ) (d : ℤ) → e ≡ neg_ℤ c → IsMultiple (part c (place p) (part e (place q) (constant d))) (double c p q)
double-is c p e q d f = record {
  above = λ h. h;
  value = λ s g. double-value c e (value_at s p) (value_at s q) d f g;
  left = λ k h. h.0;
  right = λ k h. h.1.0;
}

none-either : (t : Bool) (m : Multiple) → cond t None None ≡ Some m → ⊥
none-either true m h = none-some m h
none-either false m h = none-some m h

double-when : (c : ℤ) (p : ℕ) (e : ℤ) (q : ℕ) (d : ℤ) (m : Multiple) (t : Bool) → int_eq e (neg_ℤ c) ≡ t → cond t (Some (double c p q)) None ≡ Some m
    → IsMultiple (part c (place p) (part e (place q) (constant d))) m
double-when c p e q d m true f h =
    subst (IsMultiple (part c (place p) (part e (place q) (constant d)))) (same_Some (double c p q) m h) (double-is c p e q d (grind (arith, ints)))
double-when c p e q d m false f h = absurd (none-some m h)

pub multiple-is : (n : Form) (m : Multiple) → multiple_of n ≡ Some m → IsMultiple n m
multiple-is (constant d) m h = absurd (none-some m h)
multiple-is (part c (place p) (constant d)) m h = subst (IsMultiple (part c (place p) (constant d))) (same_Some (single c p) m h) (single-is c p d)
multiple-is (part c (pair k i j) (constant d)) m h = absurd (none-some m h)
multiple-is (part c (place p) (part e (place q) (constant d))) m h = double-when c p e q d m (int_eq e (neg_ℤ c)) refl h
multiple-is (part c (place p) (part e (pair l x y) (constant d))) m h = absurd (none-either (int_eq e (neg_ℤ c)) m h)
multiple-is (part c (pair k i j) (part e (place q) (constant d))) m h = absurd (none-either (int_eq e (neg_ℤ c)) m h)
multiple-is (part c (pair k i j) (part e (pair l x y) (constant d))) m h = absurd (none-either (int_eq e (neg_ℤ c)) m h)
multiple-is (part c a (part e b (part f x n))) m h = absurd (none-some m h)

-- a constraint on the places is met exactly where the multiple is bounded
module _ (m : Multiple) (b : ℤ) (s : State) (above : pos 0 <ℤ m.coefficient) where
  at-most-met : (m.coefficient *ℤ apart m s) ≤ℤ b → Meets s (at_most m b)
  at-most-met h = record { kept = most-multiple m.coefficient (apart m s) b above h }

  met-at-most : Meets s (at_most m b) → (m.coefficient *ℤ apart m s) ≤ℤ b
  met-at-most h = multiple-most m.coefficient (apart m s) b above h.kept

  turned : neg_ℤ (apart m s) ≡ difference.value_at s m.right -ℤ value_at s m.left
  turned = turned-by (value_at s m.left) (difference.value_at s m.right)
    where
      turned-by : (v w : ℤ) → neg_ℤ (v -ℤ w) ≡ w -ℤ v
      turned-by v w = omega (arith, ints)

  at-least-met : b ≤ℤ (m.coefficient *ℤ apart m s) → Meets s (at_least m b)
  at-least-met h = record { kept = subst (λ v. v ≤ℤ int_div_euclid (neg_ℤ b) m.coefficient) turned (least-multiple m.coefficient (apart m s) b above h) }

  met-at-least : Meets s (at_least m b) → b ≤ℤ (m.coefficient *ℤ apart m s)
  met-at-least h = multiple-least m.coefficient (apart m s) b above (subst (λ v. v ≤ℤ int_div_euclid (neg_ℤ b) m.coefficient) (sym turned) h.kept)

-- of one and of two
only-one : (c d : Constraint) (s : State) → Meets s c → IsIn (c ∷ []) d → Meets s d
only-one c d s h (inl e) = subst (Meets s) e h
only-one c d s h (inr k) = absurd k

only-two : (c d e : Constraint) (s : State) → Meets s c → Meets s d → IsIn (c ∷ d ∷ []) e → Meets s e
only-two c d e s h i (inl f) = subst (Meets s) f h
only-two c d e s h i (inr k) = only-one d e s i k

eq-most : (v b : ℤ) → int_eq v b ≡ true → v ≤ℤ b
eq-most v b h = grind (arith, ints)

eq-least : (v b : ℤ) → int_eq v b ≡ true → b ≤ℤ v
eq-least v b h = grind (arith, ints)

eq-both : (v b : ℤ) → v ≤ℤ b → b ≤ℤ v → int_eq v b ≡ true
eq-both v b h k = grind (arith, ints)

lt-most : (v b : ℤ) → int_lt v b ≡ true → v ≤ℤ (b -ℤ pos 1)
lt-most v b h = grind (arith, ints)

most-lt : (v b : ℤ) → v ≤ℤ (b -ℤ pos 1) → int_lt v b ≡ true
most-lt v b h = grind (arith, ints)

gt-least : (v b : ℤ) → int_lt b v ≡ true → (b +ℤ pos 1) ≤ℤ v
gt-least v b h = grind (arith, ints)

least-gt : (v b : ℤ) → (b +ℤ pos 1) ≤ℤ v → int_lt b v ≡ true
least-gt v b h = grind (arith, ints)

le-most : (v b : ℤ) → int_le v b ≡ true → v ≤ℤ b
le-most v b h = grind (arith, ints)

most-le : (v b : ℤ) → v ≤ℤ b → int_le v b ≡ true
most-le v b h = grind (arith, ints)

module _ (m : Multiple) (b : ℤ) (s : State) (above : pos 0 <ℤ m.coefficient) where
  abbrev times : ℤ
  times = m.coefficient *ℤ apart m s

  -- where the relation holds, what it asks is met
  relation-met : (r : Relation) → compares r times b ≡ true → (c : Constraint) → IsIn (constraints_in (relation_reading m r b)) c → Meets s c
  relation-met Eq h c k = only-two (at_most m b) (at_least m b) c s (at-most-met m b s above (eq-most times b h)) (at-least-met m b s above (eq-least times b h)) k
  relation-met Ne h c k = absurd k
  relation-met Lt h c k = only-one (at_most m (b -ℤ pos 1)) c s (at-most-met m (b -ℤ pos 1) s above (lt-most times b h)) k
  relation-met Le h c k = only-one (at_most m b) c s (at-most-met m b s above (le-most times b h)) k
  relation-met Gt h c k = only-one (at_least m (b +ℤ pos 1)) c s (at-least-met m (b +ℤ pos 1) s above (gt-least times b h)) k
  relation-met Ge h c k = only-one (at_least m b) c s (at-least-met m b s above (le-most b times h)) k

  met-relation : (r : Relation) → is_other_than r ≡ false → ((c : Constraint) → IsIn (constraints_in (relation_reading m r b)) c → Meets s c) → compares r times b ≡ true
  met-relation Eq u h = eq-both times b (met-at-most m b s above (h (at_most m b) (inl refl))) (met-at-least m b s above (h (at_least m b) (inr (inl refl))))
  met-relation Ne u h = absurd cc
  met-relation Lt u h = most-lt times b (met-at-most m (b -ℤ pos 1) s above (h (at_most m (b -ℤ pos 1)) (inl refl)))
  met-relation Le u h = most-le times b (met-at-most m b s above (h (at_most m b) (inl refl)))
  met-relation Gt u h = least-gt times b (met-at-least m (b +ℤ pos 1) s above (h (at_least m (b +ℤ pos 1)) (inl refl)))
  met-relation Ge u h = most-le b times (met-at-least m b s above (h (at_least m b) (inl refl)))

-- where a form holds, what it asks is met
pub form-met : (f : LiteralForm) (s : State) → IsKept f → form_holds f s ≡ true → (c : Constraint) → IsIn (constraints_of f) c → Meets s c
form-met always s k h c i = absurd i
form-met never s k h c i = absurd cc
form-met (keep n r b) s k h c i = by_multiple (multiple_of n) refl i
  where
    by_multiple : (o : Option Multiple) → multiple_of n ≡ o → IsIn (constraints_in (multiple_reading o r b)) c → Meets s c
    by_multiple None e j = absurd j
    by_multiple (Some m) e j =
        let w = multiple-is n m e in
        relation-met m b s (w.above k.2) r (subst (λ v. compares r v b ≡ true) (w.value s k.1) h) c j

easy-plain : (a b : Bool) → (a && not b) ≡ true → (a ≡ true) × (b ≡ false)
easy-plain true true e = absurd cc
easy-plain true false e = (refl, refl)
easy-plain false b e = absurd cc

-- and where it is met, the form holds, if it is easy and no disequality
pub met-form : (f : LiteralForm) (s : State) → IsKept f → is_plain f ≡ true → ((c : Constraint) → IsIn (constraints_of f) c → Meets s c) → form_holds f s ≡ true
met-form always s k p h = refl
met-form never s k p h = let g = (h (record { left = None; right = None; bound = negsuc 0 }) (inl refl)).kept in absurd (omega (arith, ints))
met-form (keep n r b) s k p h = by_multiple (multiple_of n) refl h
  where
    by_multiple : (o : Option Multiple) → multiple_of n ≡ o → ((c : Constraint) → IsIn (constraints_in (multiple_reading o r b)) c → Meets s c) → form_holds (keep n r b) s ≡ true
    by_multiple None e g = let q = easy-plain (is_easy (keep n r b)) (is_unequal (keep n r b)) p in let z : is_some (multiple_of n) ≡ false = ap is_some e in absurd cc
    by_multiple (Some m) e g =
        let w = multiple-is n m e in
        let q = easy-plain (is_easy (keep n r b)) (is_unequal (keep n r b)) p in
        subst (λ v. compares r v b ≡ true) (sym (w.value s k.1)) (met-relation m b s (w.above k.2) r q.1 g)
