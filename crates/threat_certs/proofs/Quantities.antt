-- The quantity of each item is at least 0 in each input that meets the literals.
use Rattle.std.proofs.Common.{◌≡◌, ◌∙◌, refl, sym, ap, subst, ℕ, zero, suc, ◌≤◌, ℤ, pos, negsuc, neg_ℤ, ◌+ℤ◌, ◌-ℤ◌, ◌*ℤ◌, ◌≤ℤ◌, ◌<ℤ◌, true, List, Some, None, arith}
use Rattle.std.specs.Int.{int_div_euclid}
use Rattle.std.proofs.lemmas.Int.{ints}
use Rattle.std.proofs.lemmas.Option.{same_Some, none-some}
use Rattle.std.proofs.Math.IntN.{+ℤ_idr}
use Rattle.il_core.specs.Evaluation.{State, value_at, compares}
use Rattle.il_core.specs.Input.{IsInput}
use Rattle.il_core.specs.Run.{IsInRange, IsInitial}
use Rattle.il_core.specs.declared.line.Place.{Place}
use Rattle.il_core.specs.declared.operator.Relation.{Relation}
use Rattle.il_core.specs.declared.operator.Relation.TheVariants.{Eq, Ne, Lt, Le, Gt, Ge}
use Rattle.il_core.proofs.Quotients.{most-multiple, least-multiple}
use Rattle.sym_simplify.specs.Form.{Form, constant, part, form_value, factor_value}
use Rattle.sym_simplify.specs.Norm.{Summand}
use Rattle.sym_simplify.specs.Merge.{scale_parts}
use Rattle.sym_simplify.specs.Literal.{LiteralForm, never, form_holds}
use Rattle.sym_simplify.proofs.NormValues.{total, total-scaled, sum-times, times-times}
use Rattle.path_inputs.specs.Least.{Meets}
use Rattle.path_inputs.proofs.Members.{in-place}
use Rattle.il_core.specs.declared.certificate.Item.{Item}
use Rattle.il_core.specs.declared.certificate.Item.TheVariants.{Up, Down, Never, Low, High, OldUp, OldDown}
use Rattle.cert_rules.specs.Quantity.{highest, lowest, IsReduced, summands_in, times_and, IsUp, IsDown, IsCopyOf, IsQuantity}

multiplied-value : (c : ℤ) (n : Form) (s : State) → form_value (scale_parts c n) s ≡ c *ℤ form_value n s
multiplied-value c (constant d) s = refl
multiplied-value c (part d a n) s =
    ap (λ v. ((c *ℤ d) *ℤ factor_value a s) +ℤ v) (multiplied-value c n s)
    ∙ (ap (λ v. v +ℤ (c *ℤ form_value n s)) (times-times c d (factor_value a s)) ∙ sym (sum-times c (d *ℤ factor_value a s) (form_value n s)))

pub one : (c : ℤ) → pos 1 *ℤ c ≡ c
one c = grind (arith, ints)

pub minus-one : (c : ℤ) → negsuc 0 *ℤ c ≡ neg_ℤ c
minus-one c = grind (arith, ints)

pub once : (n : Form) → scale_parts (pos 1) n ≡ n
once (constant d) = ap constant (one d)
once (part d a n) = ap (λ c. part c a (scale_parts (pos 1) n)) (one d) ∙ ap (part d a) (once n)

-- a greatest factor is above 0, since 1 is a factor
factor-above : (n : Form) (g : ℕ) (m : Form) → IsReduced n g m → pos 0 <ℤ pos g
factor-above n g m h = let k : 1 ≤ g = h.greatest 1 n (once n) in omega (arith, ints)

summands-total : (n : Form) (s : State) → total (summands_in n) s ≡ form_value n s
summands-total (constant c) s = +ℤ_idr c
summands-total (part c a n) s = ap (λ v. (c *ℤ factor_value a s) +ℤ v) (summands-total n s)

pub times-total : (c : ℤ) (m : Form) (d : ℤ) (s : State) → total (times_and c m d) s ≡ d +ℤ (c *ℤ form_value m s)
times-total c m d s = ap (λ v. d +ℤ v) (total-scaled c (summands_in m) s ∙ ap (λ v. c *ℤ v) (summands-total m s))

none-allowed : {A : Type 0} (x : ℤ) → None ≡ Some x → A
none-allowed x e = absurd (none-some x e)

-- what a relation allows lies between the least and the greatest
highest-bounds : (r : Relation) (v b x : ℤ) → compares r v b ≡ true → highest r b ≡ Some x → v ≤ℤ x
highest-bounds Eq v b x h e = let f = same_Some b x e in grind (arith, ints)
highest-bounds Ne v b x h e = none-allowed x e
highest-bounds Lt v b x h e = let f = same_Some (b -ℤ pos 1) x e in grind (arith, ints)
highest-bounds Le v b x h e = let f = same_Some b x e in grind (arith, ints)
highest-bounds Gt v b x h e = none-allowed x e
highest-bounds Ge v b x h e = none-allowed x e

lowest-bounds : (r : Relation) (v b x : ℤ) → compares r v b ≡ true → lowest r b ≡ Some x → x ≤ℤ v
lowest-bounds Eq v b x h e = let f = same_Some b x e in grind (arith, ints)
lowest-bounds Ne v b x h e = none-allowed x e
lowest-bounds Lt v b x h e = none-allowed x e
lowest-bounds Le v b x h e = none-allowed x e
lowest-bounds Gt v b x h e = let f = same_Some (b +ℤ pos 1) x e in grind (arith, ints)
lowest-bounds Ge v b x h e = let f = same_Some b x e in grind (arith, ints)

quotient-less : (q x : ℤ) → x ≤ℤ q → pos 0 ≤ℤ (q +ℤ (negsuc 0 *ℤ x))
quotient-less q x h = let e = minus-one x in omega (arith, ints)

less-quotient : (q x : ℤ) → neg_ℤ x ≤ℤ q → pos 0 ≤ℤ (q +ℤ (pos 1 *ℤ x))
less-quotient q x h = let e = one x in omega (arith, ints)

up-above : (f : LiteralForm) (q : List Summand) (s : State) → IsUp f q → form_holds f s ≡ true → pos 0 ≤ℤ total q s
up-above f q s u h =
    let holds : compares u.relation (form_value u.parts s) u.bound ≡ true = subst (λ g. form_holds g s ≡ true) u.kept h in
    let most = highest-bounds u.relation (form_value u.parts s) u.bound u.most holds u.allowed in
    let times : form_value u.parts s ≡ pos u.factor *ℤ form_value u.reduced s = sym (ap (λ n. form_value n s) u.divided.multiple) ∙ multiplied-value (pos u.factor) u.reduced s in
    let divided = most-multiple (pos u.factor) (form_value u.reduced s) u.most (factor-above u.parts u.factor u.reduced u.divided) (subst (λ v. v ≤ℤ u.most) times most) in
    subst (λ v. pos 0 ≤ℤ v) (sym (ap (λ x. total x s) u.quantity ∙ times-total (negsuc 0) u.reduced (int_div_euclid u.most (pos u.factor)) s))
    (quotient-less (int_div_euclid u.most (pos u.factor)) (form_value u.reduced s) divided)

down-above : (f : LiteralForm) (q : List Summand) (s : State) → IsDown f q → form_holds f s ≡ true → pos 0 ≤ℤ total q s
down-above f q s u h =
    let holds : compares u.relation (form_value u.parts s) u.bound ≡ true = subst (λ g. form_holds g s ≡ true) u.kept h in
    let fewest = lowest-bounds u.relation (form_value u.parts s) u.bound u.fewest holds u.allowed in
    let times : form_value u.parts s ≡ pos u.factor *ℤ form_value u.reduced s = sym (ap (λ n. form_value n s) u.divided.multiple) ∙ multiplied-value (pos u.factor) u.reduced s in
    let divided = least-multiple (pos u.factor) (form_value u.reduced s) u.fewest (factor-above u.parts u.factor u.reduced u.divided) (subst (λ v. u.fewest ≤ℤ v) times fewest) in
    subst (λ v. pos 0 ≤ℤ v) (sym (ap (λ x. total x s) u.quantity ∙ times-total (pos 1) u.reduced (int_div_euclid (neg_ℤ u.fewest) (pos u.factor)) s))
    (less-quotient (int_div_euclid (neg_ℤ u.fewest) (pos u.factor)) (form_value u.reduced s) divided)

low-above : (v l : ℤ) → l ≤ℤ v → pos 0 ≤ℤ ((pos 1 *ℤ v) +ℤ (neg_ℤ l +ℤ pos 0))
low-above v l h = let e = one v in omega (arith, ints)

high-above : (v g : ℤ) → v ≤ℤ g → pos 0 ≤ℤ ((negsuc 0 *ℤ v) +ℤ (g +ℤ pos 0))
high-above v g h = let e = minus-one v in omega (arith, ints)

same-above : (v w : ℤ) → v ≡ w → pos 0 ≤ℤ ((pos 1 *ℤ v) +ℤ ((negsuc 0 *ℤ w) +ℤ pos 0))
same-above v w h = let e = one v in let f = minus-one w in omega (arith, ints)

input-in_range : (places : List Place) (pc : ℕ) (s : State) → IsInput places pc s → IsInRange places s
input-in_range places zero s i = i.in_range
input-in_range places (suc pc) s i = i

input-initial : (places : List Place) (pc : ℕ) (s : State) → pc ≡ 0 → IsInput places pc s → IsInitial places s
input-initial places zero s e i = i
input-initial places (suc pc) s e i = absurd (omega arith)

copy-same : (places : List Place) (s : State) (v p : ℕ) → IsInitial places s → IsCopyOf places v p → value_at s p ≡ value_at s v
copy-same places s v p i c = ap (value_at s) c.behind ∙ i.same c.number v c.copied

pub quantity-above : (places : List Place) (pc : ℕ) (fs : List LiteralForm) (s : State) (i : Item) (q : List Summand) → Meets places pc fs s → IsQuantity places pc fs i q → pos 0 ≤ℤ total q s
quantity-above places pc fs s (Up i) q m h = up-above h.0 q s h.2 (m.each h.0 (in-place fs i h.0 h.1))
quantity-above places pc fs s (Down i) q m h = down-above h.0 q s h.2 (m.each h.0 (in-place fs i h.0 h.1))
quantity-above places pc fs s (Never i) q m h = let e = m.each never (in-place fs i never h.0) in absurd cc
quantity-above places pc fs s (Low p) q m h =
    subst (λ x. pos 0 ≤ℤ total x s) (sym h.2) (low-above (value_at s p) h.0.least ((input-in_range places pc s m.input).least p h.0 h.1))
quantity-above places pc fs s (High p) q m h =
    subst (λ x. pos 0 ≤ℤ total x s) (sym h.2) (high-above (value_at s p) h.0.greatest ((input-in_range places pc s m.input).greatest p h.0 h.1))
quantity-above places pc fs s (OldUp p) q m h =
    subst (λ x. pos 0 ≤ℤ total x s) (sym h.1.2) (same-above (value_at s h.1.0) (value_at s p) (sym (copy-same places s h.1.0 p (input-initial places pc s h.0 m.input) h.1.1)))
quantity-above places pc fs s (OldDown p) q m h =
    subst (λ x. pos 0 ≤ℤ total x s) (sym h.1.2) (same-above (value_at s p) (value_at s h.1.0) (copy-same places s h.1.0 p (input-initial places pc s h.0 m.input) h.1.1))
