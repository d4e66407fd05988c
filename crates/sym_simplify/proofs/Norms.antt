-- The normal term of a term from those of its sides.
use Rattle.std.proofs.Common.{◌≡◌, ◌∙◌, refl, ap, ℕ, ◌+◌, ◌*◌, ◌<◌, ◌≤◌, ℤ, unsigned_abs, List, arith}
use Rattle.std.proofs.Math.Nat.{mul-le-mul, mul_comm}
use Rattle.std.proofs.Math.IntN.{+ℤ_idr}
use Rattle.sym_terms.specs.Tree.{Tree, number, variable, sum, product, quotient, remainder}
use Rattle.sym_terms.specs.Measure.{weight}
use Rattle.sym_simplify.specs.Form.{Kind, over, rest, kind_value, Form, constant, part, place}
use Rattle.sym_simplify.specs.Norm.{Summand, normal_of, product_of, division_of, summands, norm, heft}
use Rattle.sym_simplify.specs.Merge.{merge, scale}
use Rattle.sym_simplify.specs.Arithmetic.{single_form, product_form, division_form}
use Rattle.sym_simplify.proofs.Hefts.{norm_heft, weight-positive}
use Rattle.sym_simplify.proofs.Merges.{normal_append, normal_scaled}

pub norm_number : (c : ℤ) → norm (number c) ≡ constant c
unfolding norm
norm_number c = ap constant (+ℤ_idr c)

pub norm_variable : (p : ℕ) → norm (variable p) ≡ single_form (place p)
unfolding norm
norm_variable p = refl

pub norm_sum : (x y : Tree) → norm (sum x y) ≡ merge (norm x) (norm y)
unfolding norm
norm_sum x y = normal_append (summands x) (summands y)

normal-product : (m n : Form) (xs ys : List Summand) → normal_of xs ≡ m → normal_of ys ≡ n → normal_of (product_of m n xs ys) ≡ product_form m n
normal-product (constant c) n xs ys h k = normal_scaled c ys ∙ ap (scale c) k
normal-product (part c a m) (constant d) xs ys h k = normal_scaled d xs ∙ ap (scale d) h
normal-product (part c a m) (part d b n) xs ys h k = refl

pub norm_product : (x y : Tree) → norm (product x y) ≡ product_form (norm x) (norm y)
unfolding norm
norm_product x y = normal-product (normal_of (summands x)) (normal_of (summands y)) (summands x) (summands y) refl refl

normal-division : (k : Kind) (m n : Form) → normal_of (division_of k m n) ≡ division_form k m n
normal-division k (constant c) (constant d) = ap constant (+ℤ_idr (kind_value k c d))
normal-division k (constant c) (part d b n) = refl
normal-division k (part c a m) n = refl

pub norm_quotient : (x y : Tree) → norm (quotient x y) ≡ division_form over (norm x) (norm y)
unfolding norm
norm_quotient x y = normal-division over (normal_of (summands x)) (normal_of (summands y))

pub norm_remainder : (x y : Tree) → norm (remainder x y) ≡ division_form rest (norm x) (norm y)
unfolding norm
norm_remainder x y = normal-division rest (normal_of (summands x)) (normal_of (summands y))

-- the sides of a sum together stay below what bounds its weight
pub sum_small : (x y : Tree) (k : ℕ) → weight x + weight y < k → heft (norm x) + heft (norm y) < k
sum_small x y k h = omega (arith, norm_heft x, norm_heft y)

-- and multiplied below what bounds the weight of a product
pub product_small : (x y : Tree) (k : ℕ) → weight x * weight y < k → heft (norm x) * heft (norm y) < k
product_small x y k h = let l : heft (norm x) * heft (norm y) ≤ weight x * weight y = mul-le-mul (norm_heft x) (norm_heft y) in omega (arith, l)

-- each side weighs no more than a product
pub product_left : (x y : Tree) (k : ℕ) → weight x * weight y < k → weight x < k
product_left x y k h = let l : weight x * 1 ≤ weight x * weight y = mul-le-mul {n₁ = weight x} {m₁ = 1} {n₂ = weight x} {m₂ = weight y} (omega arith) (weight-positive y) in omega (arith, l)

pub product_right : (x y : Tree) (k : ℕ) → weight x * weight y < k → weight y < k
product_right x y k h = let l : 1 * weight y ≤ weight x * weight y = mul-le-mul {n₁ = 1} {m₁ = weight y} {n₂ = weight x} {m₂ = weight y} (weight-positive x) (omega arith) in omega (arith, l)

-- the product of a bound with a number, whichever stands first
pub number_small : (m n : Form) (c d : ℤ) (k : ℕ) → heft m * heft n < k → n ≡ constant c → d ≡ c → unsigned_abs d * heft m < k
number_small m n c d k h e f =
    let l : heft m * unsigned_abs c < k = rw e at h in
    rw (f, mul_comm (unsigned_abs c) (heft m)) l

-- the sides of a term that weighs less than a bound
pub sum_bound : (t x y : Tree) (m n : Form) (k : ℕ) → t ≡ sum x y → weight t < k → m ≡ norm x → n ≡ norm y → heft m + heft n < k
sum_bound t x y m n k e h f g = rw (f, g) (sum_small x y k (rw e at h))

pub product_bound : (t x y : Tree) (m n : Form) (k : ℕ) → t ≡ product x y → weight t < k → m ≡ norm x → n ≡ norm y → heft m * heft n < k
product_bound t x y m n k e h f g = rw (f, g) (product_small x y k (rw e at h))

pub left_bound : (t x y : Tree) (k : ℕ) → t ≡ product x y → weight t < k → weight x < k
left_bound t x y k e h = product_left x y k (rw e at h)

pub right_bound : (t x y : Tree) (k : ℕ) → t ≡ product x y → weight t < k → weight y < k
right_bound t x y k e h = product_right x y k (rw e at h)

pub norm_bound : (x : Tree) (m : Form) (k : ℕ) → m ≡ norm x → weight x < k → heft m < k
norm_bound x m k e h = rw e (omega (arith, norm_heft x))

pub dividend_bound : (t x y : Tree) (m : Form) (k : ℕ) → t ≡ quotient x y → weight t < k → m ≡ norm x → heft m < k
dividend_bound t x y m k e h f = let l : weight (quotient x y) < k = rw e at h in norm_bound x m k f (omega (arith, l))

pub dividend_bound_of_rest : (t x y : Tree) (m : Form) (k : ℕ) → t ≡ remainder x y → weight t < k → m ≡ norm x → heft m < k
dividend_bound_of_rest t x y m k e h f = let l : weight (remainder x y) < k = rw e at h in norm_bound x m k f (omega (arith, l))
