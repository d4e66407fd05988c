-- The normal term of summands one list after the other is the sum of the lists' normal terms; multiplied summands have the multiplied normal term.
use Rattle.std.proofs.Common.{◌≡◌, ◌≢◌, ◌∙◌, refl, sym, ap, subst, ◌*◌, ◌≤◌, ℤ, pos, negsuc, ◌+ℤ◌, ◌*ℤ◌, unsigned_abs, Bool, true, false, if◌then◌else◌, List, [], ◌∷◌, ◌++◌, map, arith}
use Rattle.std.proofs.Math.Nat.{mul-le-mul}
use Rattle.std.proofs.Math.IntN.{+ℤ_idl, zero-*ℤ, *ℤ-zero}
use Rattle.std.proofs.lemmas.Int.{ints, unsigned_abs-mul}
use Rattle.std.specs.Ordering.{int_eq}
use Rattle.std.specs.declared.cmp.Ordering.{Ordering}
use Rattle.std.specs.declared.cmp.Ordering.TheVariants.{Less, Equal, Greater}
use Rattle.sym_simplify.specs.Form.{Form, constant, part, Factor}
use Rattle.sym_simplify.specs.Order.{factor_cmp}
use Rattle.sym_simplify.specs.Norm.{Summand, alone, often, scaled, normal_of}
use Rattle.sym_simplify.specs.Normal.{IsBelow, IsOrdered, constant_of, where_equal, coefficient_of, numbers_sum, coefficients_sum}
use Rattle.sym_simplify.specs.Merge.{merge_at, merge_part, merge, scale_parts, scale}
use Rattle.sym_simplify.proofs.Ordered.{factor_equal}
use Rattle.sym_simplify.proofs.NormValues.{add-assoc, sum-times, zero-test}
use Rattle.sym_simplify.proofs.Hefts.{not-zero}
use Rattle.sym_simplify.proofs.Unique.{below_below, flipped, same_normal, count-sum, count-past, before_coefficient, before_constant, before_below, before_ordered, shift_coefficient, shift_constant, shift_below, shift_ordered, coefficient_is, constant_is, ordered_is}

count-left : (o : Ordering) (c u v : ℤ) → where_equal o c (u +ℤ v) ≡ where_equal o c u +ℤ v
count-left Less c u v = refl
count-left Equal c u v = sym (add-assoc c u v)
count-left Greater c u v = refl

count-right : (o : Ordering) (d u v : ℤ) → where_equal o d (u +ℤ v) ≡ u +ℤ where_equal o d v
count-right Less d u v = refl
count-right Equal d u v = omega (arith, ints)
count-right Greater d u v = refl

part-coefficient : (x : Factor) (o : Ordering) (c : ℤ) (a : Factor) (more : Form → Form) (u : ℤ) (d : ℤ) (b : Factor) (n : Form) → factor_cmp a b ≡ o
    → ((k : Form) → coefficient_of x (more k) ≡ u +ℤ coefficient_of x k)
    → coefficient_of x (merge_part c a more n) ≡ where_equal (factor_cmp x a) c (u +ℤ coefficient_of x n)
    → coefficient_of x (merge_at o c a d b (more (part d b n)) (more n) (merge_part c a more n)) ≡ where_equal (factor_cmp x a) c (u +ℤ coefficient_of x (part d b n))
part-coefficient x Less c a more u d b n e g h = ap (where_equal (factor_cmp x a) c) (g (part d b n))
part-coefficient x Equal c a more u d b n e g h =
    before_coefficient x (c +ℤ d) b (more n) ∙ (ap (where_equal (factor_cmp x b) (c +ℤ d)) (g n)
    ∙ (count-sum (factor_cmp x b) c d (u +ℤ coefficient_of x n)
    ∙ (ap (where_equal (factor_cmp x b) c) (count-right (factor_cmp x b) d u (coefficient_of x n))
    ∙ ap (λ y. where_equal (factor_cmp x y) c (u +ℤ coefficient_of x (part d b n))) (sym (factor_equal a b e)))))
part-coefficient x Greater c a more u d b n e g h =
    ap (where_equal (factor_cmp x b) d) h ∙ (count-past (factor_cmp x a) (factor_cmp x b) c d (u +ℤ coefficient_of x n)
    ∙ ap (where_equal (factor_cmp x a) c) (count-right (factor_cmp x b) d u (coefficient_of x n)))

part_coefficient : (x : Factor) (c : ℤ) (a : Factor) (more : Form → Form) (u : ℤ) (n : Form) → ((k : Form) → coefficient_of x (more k) ≡ u +ℤ coefficient_of x k)
    → coefficient_of x (merge_part c a more n) ≡ where_equal (factor_cmp x a) c (u +ℤ coefficient_of x n)
part_coefficient x c a more u (constant d) g = ap (where_equal (factor_cmp x a) c) (g (constant d))
part_coefficient x c a more u (part d b n) g = part-coefficient x (factor_cmp a b) c a more u d b n refl g (part_coefficient x c a more u n g)

pub merge_coefficient : (x : Factor) (m n : Form) → coefficient_of x (merge m n) ≡ coefficient_of x m +ℤ coefficient_of x n
merge_coefficient x (constant c) n = shift_coefficient x c n ∙ sym (+ℤ_idl (coefficient_of x n))
merge_coefficient x (part c a m) n =
    part_coefficient x c a (merge m) (coefficient_of x m) n (λ k. merge_coefficient x m k)
    ∙ count-left (factor_cmp x a) c (coefficient_of x m) (coefficient_of x n)

at-constant : (o : Ordering) (c : ℤ) (a : Factor) (d : ℤ) (b : Factor) (first both second : Form) (u : ℤ) → constant_of first ≡ u → constant_of both ≡ u → constant_of second ≡ u
    → constant_of (merge_at o c a d b first both second) ≡ u
at-constant Less c a d b first both second u f g h = f
at-constant Equal c a d b first both second u f g h = before_constant (c +ℤ d) b both ∙ g
at-constant Greater c a d b first both second u f g h = h

part_constant : (c : ℤ) (a : Factor) (more : Form → Form) (u : ℤ) (n : Form) → ((k : Form) → constant_of (more k) ≡ u +ℤ constant_of k)
    → constant_of (merge_part c a more n) ≡ u +ℤ constant_of n
part_constant c a more u (constant d) g = g (constant d)
part_constant c a more u (part d b n) g =
    at-constant (factor_cmp a b) c a d b (more (part d b n)) (more n) (merge_part c a more n) (u +ℤ constant_of n) (g (part d b n)) (g n) (part_constant c a more u n g)

pub merge_constant : (m n : Form) → constant_of (merge m n) ≡ constant_of m +ℤ constant_of n
merge_constant (constant c) n = shift_constant c n
merge_constant (part c a m) n = part_constant c a (merge m) (constant_of m) n (λ k. merge_constant m k)

at-below : (x : Factor) (o : Ordering) (c : ℤ) (a : Factor) (d : ℤ) (b : Factor) (first both second : Form) → factor_cmp x a ≡ Less → factor_cmp x b ≡ Less → IsBelow x both
    → IsBelow x (merge_at o c a d b first both second)
at-below x Less c a d b first both second h k l = h
at-below x Equal c a d b first both second h k l = before_below x (c +ℤ d) b both k l
at-below x Greater c a d b first both second h k l = k

part-below : (x : Factor) (c : ℤ) (a : Factor) (m : Form) (more : Form → Form) (n : Form) → ((k : Form) → IsBelow x m → IsBelow x k → IsBelow x (more k))
    → factor_cmp x a ≡ Less → IsBelow a m → IsOrdered n → IsBelow x n → IsBelow x (merge_part c a more n)
part-below x c a m more (constant d) g h l o k = h
part-below x c a m more (part d b n) g h l o k =
    at-below x (factor_cmp a b) c a d b (more (part d b n)) (more n) (merge_part c a more n) h k (g n (below_below x a m h l) (below_below x b n k o.1))

merge-below : (x : Factor) (m n : Form) → IsOrdered m → IsOrdered n → IsBelow x m → IsBelow x n → IsBelow x (merge m n)
merge-below x (constant c) n o p h k = shift_below x c n k
merge-below x (part c a m) (constant d) o p h k = h
merge-below x (part c a m) (part d b n) o p h k =
    at-below x (factor_cmp a b) c a d b (merge m (part d b n)) (merge m n) (merge_part c a (merge m) n) h k
    (merge-below x m n o.2 p.2 (below_below x a m h o.1) (below_below x b n k p.1))

at-ordered : (o : Ordering) (c : ℤ) (a : Factor) (d : ℤ) (b : Factor) (m n first both second : Form) → factor_cmp a b ≡ o → IsOrdered (part c a m) → IsOrdered (part d b n)
    → IsOrdered first → IsOrdered both → IsOrdered second → (factor_cmp a b ≡ Less → IsBelow a first) → (IsBelow b m → IsBelow b both) → (factor_cmp b a ≡ Less → IsBelow b second)
    → IsOrdered (merge_at o c a d b first both second)
at-ordered Less c a d b m n first both second e h k f g i p q r = (h.0, p e, f)
at-ordered Equal c a d b m n first both second e h k f g i p q r =
    let P : Factor → Type 0 = λ x. IsBelow x m in before_ordered (c +ℤ d) b both (q (subst P (factor_equal a b e) h.1)) g
at-ordered Greater c a d b m n first both second e h k f g i p q r = (k.0, r (flipped a b e), i)

part_ordered : (c : ℤ) (a : Factor) (m n : Form) → ((k : Form) → IsOrdered k → IsOrdered (merge m k)) → IsOrdered (part c a m) → IsOrdered n
    → IsOrdered (merge_part c a (merge m) n)
part_ordered c a m (constant d) g h k = (h.0, merge-below a m (constant d) h.2 tt h.1 tt, g (constant d) tt)
part_ordered c a m (part d b n) g h k =
    at-ordered (factor_cmp a b) c a d b m n (merge m (part d b n)) (merge m n) (merge_part c a (merge m) n) refl h k
    (g (part d b n) k) (g n k.2) (part_ordered c a m n g h k.2)
    (λ l. merge-below a m (part d b n) h.2 k h.1 l)
    (λ l. merge-below b m n h.2 k.2 l k.1)
    (λ l. merge-below b (part c a m) n h k.2 l k.1)

pub merge_ordered : (m n : Form) → IsOrdered m → IsOrdered n → IsOrdered (merge m n)
merge_ordered (constant c) n h k = shift_ordered c n k
merge_ordered (part c a m) n h k = part_ordered c a m n (λ l i. merge_ordered m l h.2 i) h k

coefficients-append : (x : Factor) (xs ys : List Summand) → coefficients_sum x (xs ++ ys) ≡ coefficients_sum x xs +ℤ coefficients_sum x ys
coefficients-append x [] ys = sym (+ℤ_idl (coefficients_sum x ys))
coefficients-append x (alone c ∷ xs) ys = coefficients-append x xs ys
coefficients-append x (often c a ∷ xs) ys =
    ap (where_equal (factor_cmp x a) c) (coefficients-append x xs ys) ∙ count-left (factor_cmp x a) c (coefficients_sum x xs) (coefficients_sum x ys)

numbers-append : (xs ys : List Summand) → numbers_sum (xs ++ ys) ≡ numbers_sum xs +ℤ numbers_sum ys
numbers-append [] ys = sym (+ℤ_idl (numbers_sum ys))
numbers-append (alone c ∷ xs) ys = ap (λ v. c +ℤ v) (numbers-append xs ys) ∙ sym (add-assoc c (numbers_sum xs) (numbers_sum ys))
numbers-append (often c a ∷ xs) ys = numbers-append xs ys

-- summands one list after the other
pub normal_append : (xs ys : List Summand) → normal_of (xs ++ ys) ≡ merge (normal_of xs) (normal_of ys)
normal_append xs ys =
    same_normal (normal_of (xs ++ ys)) (merge (normal_of xs) (normal_of ys)) (ordered_is (xs ++ ys))
    (merge_ordered (normal_of xs) (normal_of ys) (ordered_is xs) (ordered_is ys))
    (constant_is (xs ++ ys) ∙ (numbers-append xs ys ∙ sym (merge_constant (normal_of xs) (normal_of ys) ∙ rw (constant_is xs, constant_is ys) refl)))
    (λ x. coefficient_is x (xs ++ ys) ∙ (coefficients-append x xs ys ∙ sym (merge_coefficient x (normal_of xs) (normal_of ys) ∙ rw (coefficient_is x xs, coefficient_is x ys) refl)))

times-count : (o : Ordering) (c d k : ℤ) → where_equal o (c *ℤ d) (c *ℤ k) ≡ c *ℤ where_equal o d k
times-count Less c d k = refl
times-count Equal c d k = sym (sum-times c d k)
times-count Greater c d k = refl

coefficients-scaled : (x : Factor) (c : ℤ) (xs : List Summand) → coefficients_sum x (map (scaled c) xs) ≡ c *ℤ coefficients_sum x xs
coefficients-scaled x c [] = sym (*ℤ-zero c)
coefficients-scaled x c (alone d ∷ xs) = coefficients-scaled x c xs
coefficients-scaled x c (often d a ∷ xs) =
    ap (where_equal (factor_cmp x a) (c *ℤ d)) (coefficients-scaled x c xs) ∙ times-count (factor_cmp x a) c d (coefficients_sum x xs)

numbers-scaled : (c : ℤ) (xs : List Summand) → numbers_sum (map (scaled c) xs) ≡ c *ℤ numbers_sum xs
numbers-scaled c [] = sym (*ℤ-zero c)
numbers-scaled c (alone d ∷ xs) = ap (λ v. (c *ℤ d) +ℤ v) (numbers-scaled c xs) ∙ sym (sum-times c d (numbers_sum xs))
numbers-scaled c (often d a ∷ xs) = numbers-scaled c xs

parts-coefficient : (x : Factor) (c : ℤ) (n : Form) → coefficient_of x (scale_parts c n) ≡ c *ℤ coefficient_of x n
parts-coefficient x c (constant d) = sym (*ℤ-zero c)
parts-coefficient x c (part d a n) =
    ap (where_equal (factor_cmp x a) (c *ℤ d)) (parts-coefficient x c n) ∙ times-count (factor_cmp x a) c d (coefficient_of x n)

parts-constant : (c : ℤ) (n : Form) → constant_of (scale_parts c n) ≡ c *ℤ constant_of n
parts-constant c (constant d) = refl
parts-constant c (part d a n) = parts-constant c n

abs-positive : (c : ℤ) → c ≢ pos 0 → 1 ≤ unsigned_abs c
abs-positive c h = grind (arith, ints)

abs-not-zero : (c : ℤ) → 1 ≤ unsigned_abs c → c ≢ pos 0
abs-not-zero c h e = let k : unsigned_abs c ≡ 0 = ap unsigned_abs e in absurd (omega (arith, k))

-- a product of two numbers other than 0 is not 0
pub times_not_zero : (c d : ℤ) → c ≢ pos 0 → d ≢ pos 0 → c *ℤ d ≢ pos 0
times_not_zero c d h k =
    let l : 1 * 1 ≤ unsigned_abs c * unsigned_abs d = mul-le-mul (abs-positive c h) (abs-positive d k) in
    abs-not-zero (c *ℤ d) (omega (arith, l, unsigned_abs-mul c d))

parts-below : (x : Factor) (c : ℤ) (n : Form) → IsBelow x n → IsBelow x (scale_parts c n)
parts-below x c (constant d) h = tt
parts-below x c (part d a n) h = h

parts-ordered : (c : ℤ) (n : Form) → c ≢ pos 0 → IsOrdered n → IsOrdered (scale_parts c n)
parts-ordered c (constant d) h k = tt
parts-ordered c (part d a n) h k = (times_not_zero c d h k.0, parts-below a c n k.1, parts-ordered c n h k.2)

scaled-by : (c : ℤ) (xs : List Summand) (b : Bool) → int_eq c (pos 0) ≡ b
    → normal_of (map (scaled c) xs) ≡ (if b then constant (pos 0) else scale_parts c (normal_of xs))
scaled-by c xs true h =
    let e : c ≡ pos 0 = zero-test c h in
    same_normal (normal_of (map (scaled c) xs)) (constant (pos 0)) (ordered_is (map (scaled c) xs)) tt
    (constant_is (map (scaled c) xs) ∙ (numbers-scaled c xs ∙ (ap (λ v. v *ℤ numbers_sum xs) e ∙ zero-*ℤ (numbers_sum xs))))
    (λ x. coefficient_is x (map (scaled c) xs) ∙ (coefficients-scaled x c xs ∙ (ap (λ v. v *ℤ coefficients_sum x xs) e ∙ zero-*ℤ (coefficients_sum x xs))))
scaled-by c xs false h =
    same_normal (normal_of (map (scaled c) xs)) (scale_parts c (normal_of xs)) (ordered_is (map (scaled c) xs)) (parts-ordered c (normal_of xs) (not-zero c h) (ordered_is xs))
    (constant_is (map (scaled c) xs) ∙ (numbers-scaled c xs ∙ sym (parts-constant c (normal_of xs) ∙ ap (λ v. c *ℤ v) (constant_is xs))))
    (λ x. coefficient_is x (map (scaled c) xs) ∙ (coefficients-scaled x c xs ∙ sym (parts-coefficient x c (normal_of xs) ∙ ap (λ v. c *ℤ v) (coefficient_is x xs))))

-- summands multiplied
pub normal_scaled : (c : ℤ) (xs : List Summand) → normal_of (map (scaled c) xs) ≡ scale c (normal_of xs)
normal_scaled c xs = scaled-by c xs (int_eq c (pos 0)) refl

-- summands less others
pub difference_is : (xs ys : List Summand) → normal_of (xs ++ map (scaled (negsuc 0)) ys) ≡ merge (normal_of xs) (scale (negsuc 0) (normal_of ys))
difference_is xs ys = normal_append xs (map (scaled (negsuc 0)) ys) ∙ ap (merge (normal_of xs)) (normal_scaled (negsuc 0) ys)
