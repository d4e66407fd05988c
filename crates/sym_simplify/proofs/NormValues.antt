-- A term's normal term has the term's value in every state.
use Rattle.std.proofs.Common.{◌≡◌, ◌∙◌, refl, sym, ap, zero, suc, ℤ, pos, negsuc, ◌+ℤ◌, ◌-ℤ◌, ◌*ℤ◌, Bool, true, false, if◌then◌else◌, List, [], ◌∷◌, ◌++◌, map, arith}
use Rattle.std.proofs.Math.IntN.{pred_ℤ, suc_ℤ-*ℤ, pred_ℤ-*ℤ, suc_ℤ-+ℤ, pred_ℤ-+ℤ, zero-*ℤ, *ℤ-zero, +ℤ_idl, +ℤ_idr}
use Rattle.std.proofs.lemmas.Int.{ints}
use Rattle.std.specs.Ordering.{int_eq}
use Rattle.std.specs.declared.cmp.Ordering.{Ordering}
use Rattle.std.specs.declared.cmp.Ordering.TheVariants.{Less, Equal, Greater}
use Rattle.il_core.specs.Evaluation.{State}
use Rattle.il_core.proofs.Integers.{product-swap}
use Rattle.sym_terms.specs.Tree.{Tree, number, variable, sum, product, quotient, remainder}
use Rattle.sym_terms.specs.Value.{value_of}
use Rattle.sym_simplify.specs.Form.{Kind, over, rest, kind_value, Form, constant, part, Factor, place, pair, form_value, factor_value}
use Rattle.sym_simplify.specs.Order.{form_cmp, factor_cmp}
use Rattle.sym_simplify.specs.Norm.{Summand, alone, often, scaled, before, beside, insert, shift, normal_of, lesser_first, product_of, division_of, summands, norm}
use Rattle.sym_simplify.proofs.Ordered.{factor_equal}

add-swap : (a b c : ℤ) → (a +ℤ b) +ℤ c ≡ (a +ℤ c) +ℤ b
add-swap a b c = omega (arith, ints)

less-swap : (a b c : ℤ) → (a +ℤ b) -ℤ c ≡ (a -ℤ c) +ℤ b
less-swap a b c = omega (arith, ints)

pub add-assoc : (a b c : ℤ) → (a +ℤ b) +ℤ c ≡ a +ℤ (b +ℤ c)
add-assoc a b c = omega (arith, ints)

pub add-past : (a b c : ℤ) → b +ℤ (a +ℤ c) ≡ a +ℤ (b +ℤ c)
add-past a b c = omega (arith, ints)

-- a product distributes over a sum
times-sum : (c d x : ℤ) → (c +ℤ d) *ℤ x ≡ (c *ℤ x) +ℤ (d *ℤ x)
times-sum (pos zero) d x = rw (+ℤ_idl d, zero-*ℤ x) (sym (+ℤ_idl (d *ℤ x)))
times-sum (pos (suc n)) d x =
    ap (λ v. v *ℤ x) (suc_ℤ-+ℤ (pos n) d) ∙ (suc_ℤ-*ℤ (pos n +ℤ d) x ∙ (ap (λ v. v +ℤ x) (times-sum (pos n) d x)
    ∙ (add-swap (pos n *ℤ x) (d *ℤ x) x ∙ ap (λ v. v +ℤ (d *ℤ x)) (sym (suc_ℤ-*ℤ (pos n) x)))))
times-sum (negsuc zero) d x =
    ap (λ v. v *ℤ x) (pred_ℤ-+ℤ (pos 0) d ∙ ap pred_ℤ (+ℤ_idl d)) ∙ (pred_ℤ-*ℤ d x
    ∙ (minus-one (d *ℤ x) x ∙ ap (λ v. v +ℤ (d *ℤ x)) (sym (pred_ℤ-*ℤ (pos 0) x ∙ ap (λ v. v -ℤ x) (zero-*ℤ x)))))
  where
    minus-one : (a b : ℤ) → a -ℤ b ≡ (pos 0 -ℤ b) +ℤ a
    minus-one a b = omega (arith, ints)
times-sum (negsuc (suc n)) d x =
    ap (λ v. v *ℤ x) (pred_ℤ-+ℤ (negsuc n) d) ∙ (pred_ℤ-*ℤ (negsuc n +ℤ d) x ∙ (ap (λ v. v -ℤ x) (times-sum (negsuc n) d x)
    ∙ (less-swap (negsuc n *ℤ x) (d *ℤ x) x ∙ ap (λ v. v +ℤ (d *ℤ x)) (sym (pred_ℤ-*ℤ (negsuc n) x)))))

-- and over a sum on its right
pub sum-times : (c x y : ℤ) → c *ℤ (x +ℤ y) ≡ (c *ℤ x) +ℤ (c *ℤ y)
sum-times c x y = product-swap c (x +ℤ y) ∙ (times-sum x y c ∙ rw (product-swap x c, product-swap y c) refl)

one-times : (x : ℤ) → pos 1 *ℤ x ≡ x
one-times x = suc_ℤ-*ℤ (pos 0) x ∙ (ap (λ v. v +ℤ x) (zero-*ℤ x) ∙ +ℤ_idl x)

times-less : (a b x : ℤ) → (a -ℤ b) *ℤ x ≡ (a *ℤ x) -ℤ (b *ℤ x)
times-less a b x =
    let e : (a -ℤ b) +ℤ b ≡ a = omega (arith, ints) in
    let f : a *ℤ x ≡ ((a -ℤ b) *ℤ x) +ℤ (b *ℤ x) = ap (λ v. v *ℤ x) (sym e) ∙ times-sum (a -ℤ b) b x in
    taken (a *ℤ x) ((a -ℤ b) *ℤ x) (b *ℤ x) f
  where
    taken : (u v w : ℤ) → u ≡ v +ℤ w → v ≡ u -ℤ w
    taken u v w e = omega (arith, ints)

-- products group either way
pub times-times : (c d x : ℤ) → (c *ℤ d) *ℤ x ≡ c *ℤ (d *ℤ x)
times-times (pos zero) d x = rw (zero-*ℤ d, zero-*ℤ x, zero-*ℤ (d *ℤ x)) refl
times-times (pos (suc n)) d x =
    ap (λ v. v *ℤ x) (suc_ℤ-*ℤ (pos n) d) ∙ (times-sum (pos n *ℤ d) d x ∙ (ap (λ v. v +ℤ (d *ℤ x)) (times-times (pos n) d x) ∙ sym (suc_ℤ-*ℤ (pos n) (d *ℤ x))))
times-times (negsuc zero) d x =
    ap (λ v. v *ℤ x) (pred_ℤ-*ℤ (pos 0) d) ∙ (times-less (pos 0 *ℤ d) d x
    ∙ (ap (λ v. (v *ℤ x) -ℤ (d *ℤ x)) (zero-*ℤ d) ∙ (ap (λ v. v -ℤ (d *ℤ x)) (zero-*ℤ x ∙ sym (zero-*ℤ (d *ℤ x))) ∙ sym (pred_ℤ-*ℤ (pos 0) (d *ℤ x)))))
times-times (negsuc (suc n)) d x =
    ap (λ v. v *ℤ x) (pred_ℤ-*ℤ (negsuc n) d) ∙ (times-less (negsuc n *ℤ d) d x ∙ (ap (λ v. v -ℤ (d *ℤ x)) (times-times (negsuc n) d x) ∙ sym (pred_ℤ-*ℤ (negsuc n) (d *ℤ x))))

-- the sum of the values of summands
abbrev pub total : List Summand → State → ℤ
total [] s = pos 0
total (alone c ∷ more) s = c +ℤ total more s
total (often c a ∷ more) s = (c *ℤ factor_value a s) +ℤ total more s

pub zero-test : (c : ℤ) → int_eq c (pos 0) ≡ true → c ≡ pos 0
zero-test c h = grind (arith, ints)

before-by : (c : ℤ) (a : Factor) (n : Form) (s : State) (b : Bool) → int_eq c (pos 0) ≡ b
    → form_value (if b then n else part c a n) s ≡ (c *ℤ factor_value a s) +ℤ form_value n s
before-by c a n s true h = rw (zero-test c h, zero-*ℤ (factor_value a s)) (sym (+ℤ_idl (form_value n s)))
before-by c a n s false h = refl

before-value : (c : ℤ) (a : Factor) (n : Form) (s : State) → form_value (before c a n) s ≡ (c *ℤ factor_value a s) +ℤ form_value n s
before-value c a n s = before-by c a n s (int_eq c (pos 0)) refl

beside-value : (o : Ordering) (c : ℤ) (a : Factor) (d : ℤ) (b : Factor) (n later : Form) (s : State) → factor_cmp a b ≡ o
    → form_value later s ≡ (c *ℤ factor_value a s) +ℤ form_value n s
    → form_value (beside o c a d b n later) s ≡ (c *ℤ factor_value a s) +ℤ ((d *ℤ factor_value b s) +ℤ form_value n s)
beside-value Less c a d b n later s e h = before-value c a (part d b n) s
beside-value Equal c a d b n later s e h =
    before-value (c +ℤ d) b n s
    ∙ (ap (λ v. v +ℤ form_value n s) (times-sum c d (factor_value b s))
    ∙ (add-assoc (c *ℤ factor_value b s) (d *ℤ factor_value b s) (form_value n s)
    ∙ ap (λ x. (c *ℤ factor_value x s) +ℤ ((d *ℤ factor_value b s) +ℤ form_value n s)) (sym (factor_equal a b e))))
beside-value Greater c a d b n later s e h =
    ap (λ v. (d *ℤ factor_value b s) +ℤ v) h ∙ add-past (c *ℤ factor_value a s) (d *ℤ factor_value b s) (form_value n s)

insert-value : (c : ℤ) (a : Factor) (n : Form) (s : State) → form_value (insert c a n) s ≡ (c *ℤ factor_value a s) +ℤ form_value n s
insert-value c a (constant d) s = before-value c a (constant d) s
insert-value c a (part d b n) s = beside-value (factor_cmp a b) c a d b n (insert c a n) s refl (insert-value c a n s)

shift-value : (c : ℤ) (n : Form) (s : State) → form_value (shift c n) s ≡ c +ℤ form_value n s
shift-value c (constant d) s = refl
shift-value c (part d b n) s = ap (λ v. (d *ℤ factor_value b s) +ℤ v) (shift-value c n s) ∙ add-past c (d *ℤ factor_value b s) (form_value n s)

pub normal-value : (xs : List Summand) (s : State) → form_value (normal_of xs) s ≡ total xs s
normal-value [] s = refl
normal-value (alone c ∷ xs) s = shift-value c (normal_of xs) s ∙ ap (λ v. c +ℤ v) (normal-value xs s)
normal-value (often c a ∷ xs) s = insert-value c a (normal_of xs) s ∙ ap (λ v. (c *ℤ factor_value a s) +ℤ v) (normal-value xs s)

pub total-append : (xs ys : List Summand) (s : State) → total (xs ++ ys) s ≡ total xs s +ℤ total ys s
total-append [] ys s = sym (+ℤ_idl (total ys s))
total-append (alone c ∷ xs) ys s = ap (λ v. c +ℤ v) (total-append xs ys s) ∙ sym (add-assoc c (total xs s) (total ys s))
total-append (often c a ∷ xs) ys s =
    ap (λ v. (c *ℤ factor_value a s) +ℤ v) (total-append xs ys s) ∙ sym (add-assoc (c *ℤ factor_value a s) (total xs s) (total ys s))

pub total-scaled : (c : ℤ) (xs : List Summand) (s : State) → total (map (scaled c) xs) s ≡ c *ℤ total xs s
total-scaled c [] s = sym (*ℤ-zero c)
total-scaled c (alone d ∷ xs) s = ap (λ v. (c *ℤ d) +ℤ v) (total-scaled c xs s) ∙ sym (sum-times c d (total xs s))
total-scaled c (often d a ∷ xs) s =
    ap (λ v. ((c *ℤ d) *ℤ factor_value a s) +ℤ v) (total-scaled c xs s)
    ∙ (ap (λ v. v +ℤ (c *ℤ total xs s)) (times-times c d (factor_value a s)) ∙ sym (sum-times c (d *ℤ factor_value a s) (total xs s)))

lesser-value : (o : Ordering) (m n : Form) (s : State) → factor_value (lesser_first o m n) s ≡ form_value m s *ℤ form_value n s
lesser-value Less m n s = refl
lesser-value Equal m n s = refl
lesser-value Greater m n s = product-swap (form_value n s) (form_value m s)

once : (a : Factor) (s : State) → total (often (pos 1) a ∷ []) s ≡ factor_value a s
once a s = +ℤ_idr (pos 1 *ℤ factor_value a s) ∙ one-times (factor_value a s)

product-value : (m n : Form) (xs ys : List Summand) (s : State) → form_value m s ≡ total xs s → form_value n s ≡ total ys s
    → total (product_of m n xs ys) s ≡ total xs s *ℤ total ys s
product-value (constant c) n xs ys s h k = total-scaled c ys s ∙ ap (λ v. v *ℤ total ys s) h
product-value (part c a m) (constant d) xs ys s h k =
    total-scaled d xs s ∙ (ap (λ v. v *ℤ total xs s) k ∙ product-swap (total ys s) (total xs s))
product-value (part c a m) (part d b n) xs ys s h k =
    once (lesser_first (form_cmp (part c a m) (part d b n)) (part c a m) (part d b n)) s
    ∙ (lesser-value (form_cmp (part c a m) (part d b n)) (part c a m) (part d b n) s ∙ rw (h, k) refl)

division-value : (k : Kind) (m n : Form) (s : State) → total (division_of k m n) s ≡ kind_value k (form_value m s) (form_value n s)
division-value k (constant c) (constant d) s = +ℤ_idr (kind_value k c d)
division-value k (constant c) (part d b n) s = once (pair k (constant c) (part d b n)) s
division-value k (part c a m) n s = once (pair k (part c a m) n) s

-- the summands of a term add up to its value
pub summands-value : (t : Tree) (s : State) → total (summands t) s ≡ value_of t s
summands-value (number c) s = +ℤ_idr c
summands-value (variable p) s = once (place p) s
summands-value (sum x y) s = total-append (summands x) (summands y) s ∙ rw (summands-value x s, summands-value y s) refl
summands-value (product x y) s =
    product-value (normal_of (summands x)) (normal_of (summands y)) (summands x) (summands y) s (normal-value (summands x) s) (normal-value (summands y) s)
    ∙ rw (summands-value x s, summands-value y s) refl
summands-value (quotient x y) s =
    division-value over (normal_of (summands x)) (normal_of (summands y)) s
    ∙ rw (normal-value (summands x) s, normal-value (summands y) s, summands-value x s, summands-value y s) refl
summands-value (remainder x y) s =
    division-value rest (normal_of (summands x)) (normal_of (summands y)) s
    ∙ rw (normal-value (summands x) s, normal-value (summands y) s, summands-value x s, summands-value y s) refl

-- the normal term has the value
pub norm_value : (t : Tree) (s : State) → form_value (norm t) s ≡ value_of t s
unfolding norm
norm_value t s = normal-value (summands t) s ∙ summands-value t s
