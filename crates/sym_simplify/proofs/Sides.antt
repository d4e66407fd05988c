-- The normal term of a term is normal, and so are the sides of its atoms.
use Rattle.std.proofs.Common.{ℤ, pos, ◌+ℤ◌, Bool, true, false, if◌then◌else◌, List, [], ◌∷◌, ◌++◌, map}
use Rattle.std.specs.Ordering.{int_eq}
use Rattle.std.specs.declared.cmp.Ordering.{Ordering}
use Rattle.std.specs.declared.cmp.Ordering.TheVariants.{Less, Equal, Greater}
use Rattle.sym_terms.specs.Tree.{Tree, number, variable, sum, product, quotient, remainder}
use Rattle.sym_simplify.specs.Form.{Kind, over, rest, Form, constant, part, Factor}
use Rattle.sym_simplify.specs.Order.{form_cmp, factor_cmp}
use Rattle.sym_simplify.specs.Norm.{Summand, alone, often, scaled, before, beside, insert, shift, normal_of, lesser_first, product_of, division_of, summands, norm}
use Rattle.sym_simplify.specs.Normal.{IsOrdered, IsNormal, HasNormalSides}
use Rattle.sym_simplify.proofs.Unique.{ordered_is}

-- the sides of each atom are normal
abbrev pub HaveSides : Form → Type 0
HaveSides (constant c) = Unit {0}
HaveSides (part c a n) = HasNormalSides a × HaveSides n

abbrev pub AllSides : List Summand → Type 0
AllSides [] = Unit {0}
AllSides (alone c ∷ more) = AllSides more
AllSides (often c a ∷ more) = HasNormalSides a × AllSides more

normal-from : (n : Form) → IsOrdered n → HaveSides n → IsNormal n
normal-from (constant c) h k = tt
normal-from (part c a n) h k = (h.0, h.1, k.0, normal-from n h.2 k.1)

before-by : (c : ℤ) (a : Factor) (n : Form) (b : Bool) → HasNormalSides a → HaveSides n → HaveSides (if b then n else part c a n)
before-by c a n true h k = k
before-by c a n false h k = (h, k)

before-sides : (c : ℤ) (a : Factor) (n : Form) → HasNormalSides a → HaveSides n → HaveSides (before c a n)
before-sides c a n h k = before-by c a n (int_eq c (pos 0)) h k

beside-sides : (o : Ordering) (c : ℤ) (a : Factor) (d : ℤ) (b : Factor) (n later : Form) → HasNormalSides a → HaveSides (part d b n) → HaveSides later
    → HaveSides (beside o c a d b n later)
beside-sides Less c a d b n later h k l = before-sides c a (part d b n) h k
beside-sides Equal c a d b n later h k l = before-sides (c +ℤ d) b n k.0 k.1
beside-sides Greater c a d b n later h k l = (k.0, l)

insert-sides : (c : ℤ) (a : Factor) (n : Form) → HasNormalSides a → HaveSides n → HaveSides (insert c a n)
insert-sides c a (constant d) h k = before-sides c a (constant d) h tt
insert-sides c a (part d b n) h k = beside-sides (factor_cmp a b) c a d b n (insert c a n) h k (insert-sides c a n h k.1)

shift-sides : (c : ℤ) (n : Form) → HaveSides n → HaveSides (shift c n)
shift-sides c (constant d) h = tt
shift-sides c (part d b n) h = (h.0, shift-sides c n h.1)

sides-is : (xs : List Summand) → AllSides xs → HaveSides (normal_of xs)
sides-is [] h = tt
sides-is (alone c ∷ xs) h = shift-sides c (normal_of xs) (sides-is xs h)
sides-is (often c a ∷ xs) h = insert-sides c a (normal_of xs) h.0 (sides-is xs h.1)

pub normal-is : (xs : List Summand) → AllSides xs → IsNormal (normal_of xs)
normal-is xs h = normal-from (normal_of xs) (ordered_is xs) (sides-is xs h)

pub append-sides : (xs ys : List Summand) → AllSides xs → AllSides ys → AllSides (xs ++ ys)
append-sides [] ys h k = k
append-sides (alone c ∷ xs) ys h k = append-sides xs ys h k
append-sides (often c a ∷ xs) ys h k = (h.0, append-sides xs ys h.1 k)

pub scaled-sides : (c : ℤ) (xs : List Summand) → AllSides xs → AllSides (map (scaled c) xs)
scaled-sides c [] h = tt
scaled-sides c (alone d ∷ xs) h = scaled-sides c xs h
scaled-sides c (often d a ∷ xs) h = (h.0, scaled-sides c xs h.1)

lesser-sides : (o : Ordering) (m n : Form) → IsNormal m → IsNormal n → HasNormalSides (lesser_first o m n)
lesser-sides Less m n h k = (h, k)
lesser-sides Equal m n h k = (h, k)
lesser-sides Greater m n h k = (k, h)

product-sides : (m n : Form) (xs ys : List Summand) → IsNormal m → IsNormal n → AllSides xs → AllSides ys → AllSides (product_of m n xs ys)
product-sides (constant c) n xs ys h k p q = scaled-sides c ys q
product-sides (part c a m) (constant d) xs ys h k p q = scaled-sides d xs p
product-sides (part c a m) (part d b n) xs ys h k p q = (lesser-sides (form_cmp (part c a m) (part d b n)) (part c a m) (part d b n) h k, tt)

division-sides : (k : Kind) (m n : Form) → IsNormal m → IsNormal n → AllSides (division_of k m n)
division-sides k (constant c) (constant d) h l = tt
division-sides k (constant c) (part d b n) h l = ((h, l), tt)
division-sides k (part c a m) n h l = ((h, l), tt)

pub summands-sides : (t : Tree) → AllSides (summands t)
summands-sides (number c) = tt
summands-sides (variable p) = (tt, tt)
summands-sides (sum x y) = append-sides (summands x) (summands y) (summands-sides x) (summands-sides y)
summands-sides (product x y) =
    product-sides (normal_of (summands x)) (normal_of (summands y)) (summands x) (summands y)
    (normal-is (summands x) (summands-sides x)) (normal-is (summands y) (summands-sides y)) (summands-sides x) (summands-sides y)
summands-sides (quotient x y) =
    division-sides over (normal_of (summands x)) (normal_of (summands y)) (normal-is (summands x) (summands-sides x)) (normal-is (summands y) (summands-sides y))
summands-sides (remainder x y) =
    division-sides rest (normal_of (summands x)) (normal_of (summands y)) (normal-is (summands x) (summands-sides x)) (normal-is (summands y) (summands-sides y))

-- the normal term of a term is normal
pub norm_normal : (t : Tree) → IsNormal (norm t)
unfolding norm
norm_normal t = normal-is (summands t) (summands-sides t)
