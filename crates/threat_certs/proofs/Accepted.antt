-- No input meets the literals for which a certificate is accepted.
use Rattle.std.proofs.Common.{◌≡◌, ◌⊎◌, inl, inr, ◌∙◌, sym, ap, subst, ℕ, zero, suc, ℤ, pos, ◌+ℤ◌, ◌*ℤ◌, ◌≤ℤ◌, true, [], ◌∷◌, List, map, arith}
use Rattle.std.specs.Prelude.{slice_set}
use Rattle.std.proofs.lemmas.Int.{ints}
use Rattle.il_core.specs.Evaluation.{State, compares}
use Rattle.il_core.specs.LineGraph.{IsIn}
use Rattle.il_core.specs.declared.line.Place.{Place}
use Rattle.il_core.specs.declared.operator.Relation.TheVariants.{Ne, Lt, Gt}
use Rattle.il_core.proofs.Integers.{product-monotone, product-swap}
use Rattle.sym_simplify.specs.Form.{form_value}
use Rattle.sym_simplify.specs.Norm.{Summand, scaled}
use Rattle.sym_simplify.specs.Literal.{LiteralForm, keep, form_holds}
use Rattle.sym_simplify.proofs.NormValues.{total, normal-value, total-append, total-scaled}
use Rattle.path_inputs.specs.Least.{Meets}
use Rattle.path_inputs.proofs.Members.{in-place}
use Rattle.il_core.specs.declared.certificate.Share.{Share}
use Rattle.il_core.specs.Certificate.{Certificate, sum, split}
use Rattle.cert_rules.specs.Acceptance.{IsSumOf, IsNegativeSum, Refutes, IsAccepted}
use Rattle.threat_certs.proofs.Quantities.{quantity-above}

times-above : (n : ℕ) (v : ℤ) → pos 0 ≤ℤ v → pos 0 ≤ℤ (pos n *ℤ v)
times-above n v h =
    let m = product-monotone (pos 0) v n h in
    let e = product-swap v (pos n) in
    let z : pos 0 *ℤ pos n ≡ pos 0 = grind (arith, ints) in
    omega (arith, ints)

both-above : (v w : ℤ) → pos 0 ≤ℤ v → pos 0 ≤ℤ w → pos 0 ≤ℤ (v +ℤ w)
both-above v w h k = omega (arith, ints)

sum-above : (places : List Place) (pc : ℕ) (fs : List LiteralForm) (s : State) (shares : List Share) (q : List Summand) → Meets places pc fs s → IsSumOf places pc fs shares q → pos 0 ≤ℤ total q s
sum-above places pc fs s [] q m h = subst (λ x. pos 0 ≤ℤ total x s) (sym h) (omega (arith, ints))
sum-above places pc fs s (share ∷ shares) q m (low, high, (here, others, quantity, more, told)) =
    subst (λ x. pos 0 ≤ℤ total x s) (sym told)
    (subst (λ v. pos 0 ≤ℤ v) (sym (total-append (map (scaled (pos share.times)) here) others s))
    (both-above (total (map (scaled (pos share.times)) here) s) (total others s)
    (subst (λ v. pos 0 ≤ℤ v) (sym (total-scaled (pos share.times) here s)) (times-above share.times (total here s) (quantity-above places pc fs s share.item here m quantity)))
    (sum-above places pc fs s shares others m more)))

negative-sum : (places : List Place) (pc : ℕ) (fs : List LiteralForm) (s : State) (shares : List Share) → Meets places pc fs s → IsNegativeSum places pc fs shares → ⊥
negative-sum places pc fs s shares m n =
    let above = sum-above places pc fs s shares n.summed m n.sum in
    let e : total n.summed s ≡ n.left = sym (normal-value n.summed s) ∙ ap (λ f. form_value f s) n.alone in
    let below = n.negative in
    absurd (omega (arith, ints))

-- what stands in a list in which one element is replaced
in-set : {A : Type 0} (xs : List A) (i : ℕ) (y x : A) → IsIn (slice_set xs i y) x → (y ≡ x) ⊎ IsIn xs x
in-set [] i y x h = inr h
in-set (z ∷ xs) zero y x (inl e) = inl e
in-set (z ∷ xs) zero y x (inr h) = inr (inr h)
in-set (z ∷ xs) (suc i) y x (inl e) = inr (inl e)
in-set (z ∷ xs) (suc i) y x (inr h) = elim (in-set xs i y x h) [ inl e ↦ inl e | inr k ↦ inr (inr k) ]

meets-set : (places : List Place) (pc : ℕ) (fs : List LiteralForm) (s : State) (i : ℕ) (f : LiteralForm) → Meets places pc fs s → form_holds f s ≡ true → Meets places pc (slice_set fs i f) s
meets-set places pc fs s i f m h = record {
  input = m.input;
  each = λ g k. elim (in-set fs i f g k) [ inl e ↦ subst (λ x. form_holds x s ≡ true) e h | inr j ↦ m.each g j ];
}

-- two different numbers are in one order or the other
below-or-above : (v b : ℤ) → compares Ne v b ≡ true → (compares Lt v b ≡ true) ⊎ (compares Gt v b ≡ true)
below-or-above v b h = grind (arith, ints)

refuted : (places : List Place) (pc : ℕ) (fs : List LiteralForm) (c : Certificate) → Refutes places pc fs c → (s : State) → Meets places pc fs s → ⊥
refuted places pc fs (sum shares) h s m = negative-sum places pc fs s shares m h
refuted places pc fs (split i low high) (n, bound, there, first, second) s m =
    elim (below-or-above (form_value n s) bound (m.each (keep n Ne bound) (in-place fs i (keep n Ne bound) there))) [
      | inl l ↦ refuted places pc (slice_set fs i (keep n Lt bound)) low first s (meets-set places pc fs s i (keep n Lt bound) m l)
      | inr g ↦ refuted places pc (slice_set fs i (keep n Gt bound)) high second s (meets-set places pc fs s i (keep n Gt bound) m g)
    ]

pub accepted-unmet : (places : List Place) (pc : ℕ) (fs : List LiteralForm) (c : Certificate) → IsAccepted places pc fs c → (s : State) → Meets places pc fs s → ⊥
accepted-unmet places pc fs c a s m = refuted places pc fs c a.refutes s m
