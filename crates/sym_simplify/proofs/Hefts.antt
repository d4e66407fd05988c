-- The numbers of a term's normal term are bounded by the term's weight.
use Rattle.std.proofs.Common.{◌≡◌, ◌≢◌, refl, ℕ, ◌+◌, ◌*◌, ◌≤◌, ℤ, pos, ◌+ℤ◌, ◌≤ℤ◌, ◌<ℤ◌, unsigned_abs, Bool, true, false, if◌then◌else◌, List, [], ◌∷◌, ◌++◌, map, arith}
use Rattle.std.proofs.Math.Nat.{mul-le-mul}
use Rattle.std.proofs.lemmas.Int.{ints, unsigned_abs-mul}
use Rattle.std.specs.Int.{int_div_euclid, int_rem_euclid}
use Rattle.std.specs.Ordering.{int_eq}
use Rattle.std.specs.declared.cmp.Ordering.{Ordering}
use Rattle.std.specs.declared.cmp.Ordering.TheVariants.{Less, Equal, Greater}
use Rattle.il_core.proofs.Integers.{quotient-abs, remainder-low, remainder-high}
use Rattle.sym_terms.specs.Tree.{Tree, number, variable, sum, product, quotient, remainder}
use Rattle.sym_terms.specs.Value.{quotient_by, remainder_by}
use Rattle.sym_terms.specs.Measure.{weight}
use Rattle.sym_simplify.specs.Form.{Kind, over, rest, kind_value, Form, constant, part, Factor}
use Rattle.sym_simplify.specs.Order.{factor_cmp}
use Rattle.sym_simplify.specs.Norm.{Summand, alone, often, scaled, before, beside, insert, shift, normal_of, product_of, division_of, summands, norm, heft}

abs-sum : (a b : ℤ) → unsigned_abs (a +ℤ b) ≤ unsigned_abs a + unsigned_abs b
abs-sum a b = omega (arith, ints)

-- the absolute values of the numbers of summands together
abbrev pub reach : List Summand → ℕ
reach [] = 0
reach (alone c ∷ more) = unsigned_abs c + reach more
reach (often c a ∷ more) = unsigned_abs c + reach more

before-by : (c : ℤ) (a : Factor) (n : Form) (b : Bool) → heft (if b then n else part c a n) ≤ unsigned_abs c + heft n
before-by c a n true = omega arith
before-by c a n false = omega arith

before-heft : (c : ℤ) (a : Factor) (n : Form) → heft (before c a n) ≤ unsigned_abs c + heft n
before-heft c a n = before-by c a n (int_eq c (pos 0))

beside-heft : (o : Ordering) (c : ℤ) (a : Factor) (d : ℤ) (b : Factor) (n later : Form) → heft later ≤ unsigned_abs c + heft n
    → heft (beside o c a d b n later) ≤ unsigned_abs c + (unsigned_abs d + heft n)
beside-heft Less c a d b n later h = before-heft c a (part d b n)
beside-heft Equal c a d b n later h = omega (arith, before-heft (c +ℤ d) b n, abs-sum c d)
beside-heft Greater c a d b n later h = omega arith

insert-heft : (c : ℤ) (a : Factor) (n : Form) → heft (insert c a n) ≤ unsigned_abs c + heft n
insert-heft c a (constant d) = before-heft c a (constant d)
insert-heft c a (part d b n) = beside-heft (factor_cmp a b) c a d b n (insert c a n) (insert-heft c a n)

shift-heft : (c : ℤ) (n : Form) → heft (shift c n) ≤ unsigned_abs c + heft n
shift-heft c (constant d) = abs-sum c d
shift-heft c (part d b n) = omega (arith, shift-heft c n)

pub normal-heft : (xs : List Summand) → heft (normal_of xs) ≤ reach xs
normal-heft [] = omega arith
normal-heft (alone c ∷ xs) = omega (arith, shift-heft c (normal_of xs), normal-heft xs)
normal-heft (often c a ∷ xs) = omega (arith, insert-heft c a (normal_of xs), normal-heft xs)

pub reach-append : (xs ys : List Summand) → reach (xs ++ ys) ≡ reach xs + reach ys
reach-append [] ys = omega arith
reach-append (alone c ∷ xs) ys = omega (arith, reach-append xs ys)
reach-append (often c a ∷ xs) ys = omega (arith, reach-append xs ys)

pub reach-scaled : (c : ℤ) (xs : List Summand) → reach (map (scaled c) xs) ≡ unsigned_abs c * reach xs
reach-scaled c [] = omega arith
reach-scaled c (alone d ∷ xs) = rw (unsigned_abs-mul c d, reach-scaled c xs) (omega arith)
reach-scaled c (often d a ∷ xs) = rw (unsigned_abs-mul c d, reach-scaled c xs) (omega arith)

-- every weight is at least 1
pub weight-positive : (t : Tree) → 1 ≤ weight t
weight-positive (number c) = omega arith
weight-positive (variable p) = omega arith
weight-positive (sum x y) = omega (arith, weight-positive x)
weight-positive (product x y) = mul-le-mul {n₁ = 1} {m₁ = 1} {n₂ = weight x} {m₂ = weight y} (weight-positive x) (weight-positive y)
weight-positive (quotient x y) = omega (arith, weight-positive x)
weight-positive (remainder x y) = omega (arith, weight-positive x)

-- a number of summands of a product is bounded by the product of bounds of its sides
product-reach : (m n : Form) (xs ys : List Summand) (v w : ℕ) → heft m ≤ v → heft n ≤ w → reach xs ≤ v → reach ys ≤ w → 1 ≤ v → 1 ≤ w
    → reach (product_of m n xs ys) ≤ v * w
product-reach (constant c) n xs ys v w h k f g p q = rw (reach-scaled c ys) (mul-le-mul h g)
product-reach (part c a m) (constant d) xs ys v w h k f g p q =
    let l : unsigned_abs d * reach xs ≤ w * v = mul-le-mul k f in rw (reach-scaled d xs) (omega (arith, l))
product-reach (part c a m) (part d b n) xs ys v w h k f g p q = mul-le-mul {n₁ = 1} {m₁ = 1} {n₂ = v} {m₂ = w} p q

pub not-zero : (d : ℤ) → int_eq d (pos 0) ≡ false → d ≢ pos 0
not-zero d h e = let f : int_eq (pos 0) (pos 0) ≡ false = rw e at h in let g : ⊥ = cc in g

quotient-reach : (c d : ℤ) (b : Bool) → int_eq d (pos 0) ≡ b → unsigned_abs (if b then pos 0 else int_div_euclid c d) ≤ unsigned_abs c + unsigned_abs d
quotient-reach c d true h = omega arith
quotient-reach c d false h = omega (arith, quotient-abs c d (not-zero d h))

remainder-small : (r : ℤ) (n : ℕ) → pos 0 ≤ℤ r → r <ℤ pos n → unsigned_abs r ≤ n
remainder-small r n h k = omega (arith, ints)

remainder-reach : (c d : ℤ) (b : Bool) → int_eq d (pos 0) ≡ b → unsigned_abs (if b then c else int_rem_euclid c d) ≤ unsigned_abs c + unsigned_abs d
remainder-reach c d true h = omega arith
remainder-reach c d false h =
    omega (arith, remainder-small (int_rem_euclid c d) (unsigned_abs d) (remainder-low c d (not-zero d h)) (remainder-high c d (not-zero d h)))

quotient-number : (c d : ℤ) → unsigned_abs (quotient_by c d) ≤ unsigned_abs c + unsigned_abs d
quotient-number c d = quotient-reach c d (int_eq d (pos 0)) refl

remainder-number : (c d : ℤ) → unsigned_abs (remainder_by c d) ≤ unsigned_abs c + unsigned_abs d
remainder-number c d = remainder-reach c d (int_eq d (pos 0)) refl

division-reach : (k : Kind) → ((c d : ℤ) → unsigned_abs (kind_value k c d) ≤ unsigned_abs c + unsigned_abs d) → (m n : Form) (v w : ℕ)
    → heft m ≤ v → heft n ≤ w → 1 ≤ v → 1 ≤ w → reach (division_of k m n) ≤ v + w
division-reach k bound (constant c) (constant d) v w h l p q = omega (arith, bound c d)
division-reach k bound (constant c) (part d b n) v w h l p q = omega arith
division-reach k bound (part c a m) n v w h l p q = omega arith

pub le-trans : (a b c : ℕ) → a ≤ b → b ≤ c → a ≤ c
le-trans a b c h k = omega arith

-- the summands of a term reach no further than its weight
pub summands-reach : (t : Tree) → reach (summands t) ≤ weight t
summands-reach (number c) = omega arith
summands-reach (variable p) = omega arith
summands-reach (sum x y) = rw (reach-append (summands x) (summands y)) (omega (arith, summands-reach x, summands-reach y))
summands-reach (product x y) =
    product-reach (normal_of (summands x)) (normal_of (summands y)) (summands x) (summands y) (weight x) (weight y)
    (le-trans _ _ _ (normal-heft (summands x)) (summands-reach x)) (le-trans _ _ _ (normal-heft (summands y)) (summands-reach y))
    (summands-reach x) (summands-reach y) (weight-positive x) (weight-positive y)
summands-reach (quotient x y) =
    division-reach over quotient-number (normal_of (summands x)) (normal_of (summands y)) (weight x) (weight y)
    (le-trans _ _ _ (normal-heft (summands x)) (summands-reach x)) (le-trans _ _ _ (normal-heft (summands y)) (summands-reach y))
    (weight-positive x) (weight-positive y)
summands-reach (remainder x y) =
    division-reach rest remainder-number (normal_of (summands x)) (normal_of (summands y)) (weight x) (weight y)
    (le-trans _ _ _ (normal-heft (summands x)) (summands-reach x)) (le-trans _ _ _ (normal-heft (summands y)) (summands-reach y))
    (weight-positive x) (weight-positive y)

-- the numbers of a normal term reach no further than the term's weight
pub norm_heft : (t : Tree) → heft (norm t) ≤ weight t
unfolding norm
norm_heft t = le-trans _ _ _ (normal-heft (summands t)) (summands-reach t)
