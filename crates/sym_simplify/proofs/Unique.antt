-- A normal term is determined by its constant and its coefficients.
use Rattle.std.proofs.Common.{◌≡◌, ◌∙◌, refl, sym, ap, ℤ, pos, ◌+ℤ◌, Bool, true, false, if◌then◌else◌, List, [], ◌∷◌, arith}
use Rattle.std.proofs.Math.IntN.{+ℤ_idl, +ℤ_idr}
use Rattle.std.proofs.lemmas.Int.{ints}
use Rattle.std.specs.Ordering.{int_eq, ordering_reverse}
use Rattle.std.specs.declared.cmp.Ordering.{Ordering}
use Rattle.std.specs.declared.cmp.Ordering.TheVariants.{Less, Equal, Greater}
use Rattle.sym_simplify.specs.Form.{Form, constant, part, Factor}
use Rattle.sym_simplify.specs.Order.{factor_cmp}
use Rattle.sym_simplify.specs.Norm.{Summand, alone, often, before, beside, insert, shift, normal_of}
use Rattle.sym_simplify.specs.Normal.{IsBelow, IsOrdered, constant_of, where_equal, coefficient_of, numbers_sum, coefficients_sum}
use Rattle.sym_simplify.proofs.Ordered.{factor_equal, factor_self, factor_flip}
use Rattle.sym_simplify.proofs.Chains.{factor_less}
use Rattle.sym_simplify.proofs.NormValues.{zero-test, add-assoc, add-past}
use Rattle.sym_simplify.proofs.Hefts.{not-zero}

-- an atom below another that is below a normal term is below that
pub below_below : (a b : Factor) (n : Form) → factor_cmp a b ≡ Less → IsBelow b n → IsBelow a n
below_below a b (constant c) h k = tt
below_below a b (part c x n) h k = factor_less a b x h k

-- a normal term does not have an atom that is below it
none_below : (x : Factor) (n : Form) → IsBelow x n → IsOrdered n → coefficient_of x n ≡ pos 0
none_below x (constant c) h k = refl
none_below x (part c a n) h k = rw h (none_below x n (below_below x a n h k.1) k.2)

-- the coefficient of the first atom
first-coefficient : (c : ℤ) (a : Factor) (n : Form) → IsOrdered (part c a n) → coefficient_of a (part c a n) ≡ c
first-coefficient c a n h = rw (factor_self a, none_below a n h.1 h.2) (+ℤ_idr c)

cancelled : (o : Ordering) (c d e : ℤ) → where_equal o c d ≡ where_equal o c e → d ≡ e
cancelled Less c d e h = h
cancelled Equal c d e h = omega (arith, ints)
cancelled Greater c d e h = h

-- an atom below a normal term that begins with another has no coefficient in it
absent : (c : ℤ) (a : Factor) (m n : Form) → factor_cmp a a ≡ Equal → IsOrdered (part c a m) → IsOrdered n → IsBelow a n
    → ((x : Factor) → coefficient_of x (part c a m) ≡ coefficient_of x n) → ⊥
absent c a m n s h k b g = h.0 (sym (first-coefficient c a m h) ∙ (g a ∙ none_below a n b k))

pub flipped : (a b : Factor) → factor_cmp a b ≡ Greater → factor_cmp b a ≡ Less
flipped a b h = factor_flip b a ∙ ap ordering_reverse h

-- normal terms that begin with these atoms and have the same coefficients are the same, if the rests are
same-parts : (o : Ordering) (c : ℤ) (a : Factor) (m : Form) (d : ℤ) (b : Factor) (n : Form) → factor_cmp a b ≡ o → IsOrdered (part c a m) → IsOrdered (part d b n)
    → ((x : Factor) → coefficient_of x (part c a m) ≡ coefficient_of x (part d b n)) → (((x : Factor) → coefficient_of x m ≡ coefficient_of x n) → m ≡ n)
    → part c a m ≡ part d b n
same-parts Less c a m d b n e h k g go = absurd (absent c a m (part d b n) (factor_self a) h k e g)
same-parts Equal c a m d b n e h k g go =
    let f : a ≡ b = factor_equal a b e in
    let v : coefficient_of a (part d b n) ≡ coefficient_of b (part d b n) = ap (λ x. coefficient_of x (part d b n)) f in
    let i : c ≡ d = sym (first-coefficient c a m h) ∙ (g a ∙ (v ∙ first-coefficient d b n k)) in
    let P : (x : Factor) → coefficient_of x m ≡ coefficient_of x n = λ x.
    cancelled (factor_cmp x a) c (coefficient_of x m) (coefficient_of x n)
    (g x ∙ (ap (λ y. where_equal (factor_cmp x y) d (coefficient_of x n)) (sym f) ∙ ap (λ y. where_equal (factor_cmp x a) y (coefficient_of x n)) (sym i))) in
    let j : m ≡ n = go P in
    cc
same-parts Greater c a m d b n e h k g go = absurd (absent d b n (part c a m) (factor_self b) k h (flipped a b e) (λ x. sym (g x)))

-- ordered normal terms with the same constant and the same coefficients are the same
pub same_normal : (m n : Form) → IsOrdered m → IsOrdered n → constant_of m ≡ constant_of n → ((x : Factor) → coefficient_of x m ≡ coefficient_of x n) → m ≡ n
same_normal (constant c) (constant d) h k e g = ap constant e
same_normal (constant c) (part d b n) h k e g = absurd (absent d b n (constant c) (factor_self b) k h tt (λ x. sym (g x)))
same_normal (part c a m) (constant d) h k e g = absurd (absent c a m (constant d) (factor_self a) h k tt g)
same_normal (part c a m) (part d b n) h k e g = same-parts (factor_cmp a b) c a m d b n refl h k g (λ f. same_normal m n h.2 k.2 e f)

count-zero : (o : Ordering) (d : ℤ) → d ≡ where_equal o (pos 0) d
count-zero Less d = refl
count-zero Equal d = sym (+ℤ_idl d)
count-zero Greater d = refl

pub count-sum : (o : Ordering) (c d k : ℤ) → where_equal o (c +ℤ d) k ≡ where_equal o c (where_equal o d k)
count-sum Less c d k = refl
count-sum Equal c d k = add-assoc c d k
count-sum Greater c d k = refl

pub count-past : (o p : Ordering) (c d k : ℤ) → where_equal p d (where_equal o c k) ≡ where_equal o c (where_equal p d k)
count-past Less p c d k = refl
count-past Equal Less c d k = refl
count-past Equal Equal c d k = add-past c d k
count-past Equal Greater c d k = refl
count-past Greater p c d k = refl

before-count : (x : Factor) (c : ℤ) (a : Factor) (n : Form) (b : Bool) → int_eq c (pos 0) ≡ b
    → coefficient_of x (if b then n else part c a n) ≡ where_equal (factor_cmp x a) c (coefficient_of x n)
before-count x c a n true h = count-zero (factor_cmp x a) (coefficient_of x n) ∙ ap (λ v. where_equal (factor_cmp x a) v (coefficient_of x n)) (sym (zero-test c h))
before-count x c a n false h = refl

pub before_coefficient : (x : Factor) (c : ℤ) (a : Factor) (n : Form) → coefficient_of x (before c a n) ≡ where_equal (factor_cmp x a) c (coefficient_of x n)
before_coefficient x c a n = before-count x c a n (int_eq c (pos 0)) refl

beside-count : (x : Factor) (o : Ordering) (c : ℤ) (a : Factor) (d : ℤ) (b : Factor) (n later : Form) → factor_cmp a b ≡ o
    → coefficient_of x later ≡ where_equal (factor_cmp x a) c (coefficient_of x n)
    → coefficient_of x (beside o c a d b n later) ≡ where_equal (factor_cmp x a) c (coefficient_of x (part d b n))
beside-count x Less c a d b n later e h = before_coefficient x c a (part d b n)
beside-count x Equal c a d b n later e h =
    before_coefficient x (c +ℤ d) b n ∙ (count-sum (factor_cmp x b) c d (coefficient_of x n)
    ∙ ap (λ y. where_equal (factor_cmp x y) c (coefficient_of x (part d b n))) (sym (factor_equal a b e)))
beside-count x Greater c a d b n later e h =
    ap (where_equal (factor_cmp x b) d) h ∙ count-past (factor_cmp x a) (factor_cmp x b) c d (coefficient_of x n)

pub insert_coefficient : (x : Factor) (c : ℤ) (a : Factor) (n : Form) → coefficient_of x (insert c a n) ≡ where_equal (factor_cmp x a) c (coefficient_of x n)
insert_coefficient x c a (constant d) = before_coefficient x c a (constant d)
insert_coefficient x c a (part d b n) = beside-count x (factor_cmp a b) c a d b n (insert c a n) refl (insert_coefficient x c a n)

pub shift_coefficient : (x : Factor) (c : ℤ) (n : Form) → coefficient_of x (shift c n) ≡ coefficient_of x n
shift_coefficient x c (constant d) = refl
shift_coefficient x c (part d b n) = ap (where_equal (factor_cmp x b) d) (shift_coefficient x c n)

-- each coefficient is the sum of those that stand with the atom
pub coefficient_is : (x : Factor) (xs : List Summand) → coefficient_of x (normal_of xs) ≡ coefficients_sum x xs
coefficient_is x [] = refl
coefficient_is x (alone c ∷ xs) = shift_coefficient x c (normal_of xs) ∙ coefficient_is x xs
coefficient_is x (often c a ∷ xs) = insert_coefficient x c a (normal_of xs) ∙ ap (where_equal (factor_cmp x a) c) (coefficient_is x xs)

before-constant : (c : ℤ) (a : Factor) (n : Form) (b : Bool) → constant_of (if b then n else part c a n) ≡ constant_of n
before-constant c a n true = refl
before-constant c a n false = refl

pub before_constant : (c : ℤ) (a : Factor) (n : Form) → constant_of (before c a n) ≡ constant_of n
before_constant c a n = before-constant c a n (int_eq c (pos 0))

beside-constant : (o : Ordering) (c : ℤ) (a : Factor) (d : ℤ) (b : Factor) (n later : Form) → constant_of later ≡ constant_of n
    → constant_of (beside o c a d b n later) ≡ constant_of n
beside-constant Less c a d b n later h = before_constant c a (part d b n)
beside-constant Equal c a d b n later h = before_constant (c +ℤ d) b n
beside-constant Greater c a d b n later h = h

insert_constant : (c : ℤ) (a : Factor) (n : Form) → constant_of (insert c a n) ≡ constant_of n
insert_constant c a (constant d) = before_constant c a (constant d)
insert_constant c a (part d b n) = beside-constant (factor_cmp a b) c a d b n (insert c a n) (insert_constant c a n)

pub shift_constant : (c : ℤ) (n : Form) → constant_of (shift c n) ≡ c +ℤ constant_of n
shift_constant c (constant d) = refl
shift_constant c (part d b n) = shift_constant c n

-- the constant is the sum of the numbers
pub constant_is : (xs : List Summand) → constant_of (normal_of xs) ≡ numbers_sum xs
constant_is [] = refl
constant_is (alone c ∷ xs) = shift_constant c (normal_of xs) ∙ ap (λ v. c +ℤ v) (constant_is xs)
constant_is (often c a ∷ xs) = insert_constant c a (normal_of xs) ∙ constant_is xs

before-below : (x : Factor) (c : ℤ) (a : Factor) (n : Form) (b : Bool) → factor_cmp x a ≡ Less → IsBelow x n → IsBelow x (if b then n else part c a n)
before-below x c a n true h k = k
before-below x c a n false h k = h

pub before_below : (x : Factor) (c : ℤ) (a : Factor) (n : Form) → factor_cmp x a ≡ Less → IsBelow x n → IsBelow x (before c a n)
before_below x c a n h k = before-below x c a n (int_eq c (pos 0)) h k

before-ordered : (c : ℤ) (a : Factor) (n : Form) (b : Bool) → int_eq c (pos 0) ≡ b → IsBelow a n → IsOrdered n → IsOrdered (if b then n else part c a n)
before-ordered c a n true e h k = k
before-ordered c a n false e h k = (not-zero c e, h, k)

pub before_ordered : (c : ℤ) (a : Factor) (n : Form) → IsBelow a n → IsOrdered n → IsOrdered (before c a n)
before_ordered c a n h k = before-ordered c a n (int_eq c (pos 0)) refl h k

beside-below : (x : Factor) (o : Ordering) (c : ℤ) (a : Factor) (d : ℤ) (b : Factor) (n later : Form) → factor_cmp x a ≡ Less → IsBelow b n → factor_cmp x b ≡ Less
    → IsBelow x (beside o c a d b n later)
beside-below x Less c a d b n later h i k = before_below x c a (part d b n) h k
beside-below x Equal c a d b n later h i k = before_below x (c +ℤ d) b n k (below_below x b n k i)
beside-below x Greater c a d b n later h i k = k

insert-below : (x : Factor) (c : ℤ) (a : Factor) (n : Form) → factor_cmp x a ≡ Less → IsOrdered n → IsBelow x n → IsBelow x (insert c a n)
insert-below x c a (constant d) h o k = before_below x c a (constant d) h tt
insert-below x c a (part d b n) h o k = beside-below x (factor_cmp a b) c a d b n (insert c a n) h o.1 k

beside-ordered : (o : Ordering) (c : ℤ) (a : Factor) (d : ℤ) (b : Factor) (n later : Form) → factor_cmp a b ≡ o → IsOrdered (part d b n) → IsOrdered later
    → (factor_cmp b a ≡ Less → IsBelow b later) → IsOrdered (beside o c a d b n later)
beside-ordered Less c a d b n later e h k l = before_ordered c a (part d b n) e h
beside-ordered Equal c a d b n later e h k l = before_ordered (c +ℤ d) b n h.1 h.2
beside-ordered Greater c a d b n later e h k l = (h.0, l (flipped a b e), k)

insert_ordered : (c : ℤ) (a : Factor) (n : Form) → IsOrdered n → IsOrdered (insert c a n)
insert_ordered c a (constant d) h = before_ordered c a (constant d) tt tt
insert_ordered c a (part d b n) h =
    beside-ordered (factor_cmp a b) c a d b n (insert c a n) refl h (insert_ordered c a n h.2) (λ l. insert-below b c a n l h.2 h.1)

pub shift_below : (x : Factor) (c : ℤ) (n : Form) → IsBelow x n → IsBelow x (shift c n)
shift_below x c (constant d) h = tt
shift_below x c (part d b n) h = h

pub shift_ordered : (c : ℤ) (n : Form) → IsOrdered n → IsOrdered (shift c n)
shift_ordered c (constant d) h = tt
shift_ordered c (part d b n) h = (h.0, shift_below b c n h.1, shift_ordered c n h.2)

-- the normal term of summands is ordered
pub ordered_is : (xs : List Summand) → IsOrdered (normal_of xs)
ordered_is [] = tt
ordered_is (alone c ∷ xs) = shift_ordered c (normal_of xs) (ordered_is xs)
ordered_is (often c a ∷ xs) = insert_ordered c a (normal_of xs) (ordered_is xs)
