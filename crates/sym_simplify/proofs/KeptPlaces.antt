-- The places of a normal term and of a literal's form are places of the terms that they come from.
use Rattle.std.proofs.Common.{ℕ, ℤ, pos, negsuc, ◌+ℤ◌, Bool, true, false, if◌then◌else◌, List, [], ◌∷◌, ◌++◌, map, int_lt}
use Rattle.std.specs.Ordering.{int_eq}
use Rattle.std.specs.declared.cmp.Ordering.{Ordering}
use Rattle.std.specs.declared.cmp.Ordering.TheVariants.{Less, Equal, Greater}
use Rattle.il_core.specs.Evaluation.{compares}
use Rattle.il_core.specs.declared.operator.Relation.{Relation}
use Rattle.sym_terms.specs.Tree.{Tree, number, variable, sum, product, quotient, remainder}
use Rattle.sym_terms.specs.Substitution.{HasPlacesBelow}
use Rattle.sym_simplify.specs.Form.{Kind, over, rest, Form, constant, part, Factor}
use Rattle.sym_simplify.specs.Order.{form_cmp, factor_cmp}
use Rattle.sym_simplify.specs.Merge.{scale_parts}
use Rattle.sym_simplify.specs.Norm.{Summand, alone, often, scaled, before, beside, insert, shift, normal_of, lesser_first, product_of, division_of, summands, norm}
use Rattle.sym_simplify.specs.Literal.{always, never, mirrored, without_constant, kept, compared, difference}
use Rattle.sym_simplify.specs.Places.{HasFormPlacesBelow, HasFactorPlacesBelow, HasLiteralPlacesBelow}

module _ (k : ℕ) where
  -- the places of summands
  abbrev HasSummandPlaces : List Summand → Type 0
  HasSummandPlaces [] = Unit {0}
  HasSummandPlaces (alone c ∷ more) = HasSummandPlaces more
  HasSummandPlaces (often c a ∷ more) = HasFactorPlacesBelow k a × HasSummandPlaces more

  both-places : (xs ys : List Summand) → HasSummandPlaces xs → HasSummandPlaces ys → HasSummandPlaces (xs ++ ys)
  both-places [] ys p q = q
  both-places (alone c ∷ xs) ys p q = both-places xs ys p q
  both-places (often c a ∷ xs) ys p q = (p.0, both-places xs ys p.1 q)

  scaled-places : (c : ℤ) (xs : List Summand) → HasSummandPlaces xs → HasSummandPlaces (map (scaled c) xs)
  scaled-places c [] p = tt
  scaled-places c (alone d ∷ xs) p = scaled-places c xs p
  scaled-places c (often d a ∷ xs) p = (p.0, scaled-places c xs p.1)

  before-places : (c : ℤ) (a : Factor) (n : Form) → HasFactorPlacesBelow k a → HasFormPlacesBelow k n → HasFormPlacesBelow k (before c a n)
  before-places c a n p q = by_test (int_eq c (pos 0))
    where
      by_test : (b : Bool) → HasFormPlacesBelow k (if b then n else part c a n)
      by_test true = q
      by_test false = (p, q)

  beside-places : (o : Ordering) (c : ℤ) (a : Factor) (d : ℤ) (b : Factor) (n later : Form) → HasFactorPlacesBelow k a → HasFactorPlacesBelow k b
      → HasFormPlacesBelow k n → HasFormPlacesBelow k later → HasFormPlacesBelow k (beside o c a d b n later)
  beside-places Less c a d b n later p q r s = before-places c a (part d b n) p (q, r)
  beside-places Equal c a d b n later p q r s = before-places (c +ℤ d) b n q r
  beside-places Greater c a d b n later p q r s = (q, s)

  insert-places : (c : ℤ) (a : Factor) (n : Form) → HasFactorPlacesBelow k a → HasFormPlacesBelow k n → HasFormPlacesBelow k (insert c a n)
  insert-places c a (constant d) p q = before-places c a (constant d) p q
  insert-places c a (part d b n) p q = beside-places (factor_cmp a b) c a d b n (insert c a n) p q.0 q.1 (insert-places c a n p q.1)

  shift-places : (c : ℤ) (n : Form) → HasFormPlacesBelow k n → HasFormPlacesBelow k (shift c n)
  shift-places c (constant d) p = tt
  shift-places c (part d b n) p = (p.0, shift-places c n p.1)

  normal-places : (xs : List Summand) → HasSummandPlaces xs → HasFormPlacesBelow k (normal_of xs)
  normal-places [] p = tt
  normal-places (alone c ∷ xs) p = shift-places c (normal_of xs) (normal-places xs p)
  normal-places (often c a ∷ xs) p = insert-places c a (normal_of xs) p.0 (normal-places xs p.1)

  lesser-places : (o : Ordering) (m n : Form) → HasFormPlacesBelow k m → HasFormPlacesBelow k n → HasFactorPlacesBelow k (lesser_first o m n)
  lesser-places Less m n p q = (p, q)
  lesser-places Equal m n p q = (p, q)
  lesser-places Greater m n p q = (q, p)

  product-places : (m n : Form) (xs ys : List Summand) → HasFormPlacesBelow k m → HasFormPlacesBelow k n → HasSummandPlaces xs → HasSummandPlaces ys
      → HasSummandPlaces (product_of m n xs ys)
  product-places (constant c) n xs ys p q r s = scaled-places c ys s
  product-places (part c a m) (constant d) xs ys p q r s = scaled-places d xs r
  product-places (part c a m) (part d b n) xs ys p q r s = (lesser-places (form_cmp (part c a m) (part d b n)) (part c a m) (part d b n) p q, tt)

  division-places : (l : Kind) (m n : Form) → HasFormPlacesBelow k m → HasFormPlacesBelow k n → HasSummandPlaces (division_of l m n)
  division-places l (constant c) (constant d) p q = tt
  division-places l (constant c) (part d b n) p q = ((p, q), tt)
  division-places l (part c a m) n p q = ((p, q), tt)

  summand-places : (t : Tree) → HasPlacesBelow k t → HasSummandPlaces (summands t)
  summand-places (number c) p = tt
  summand-places (variable q) p = (p, tt)
  summand-places (sum x y) p = both-places (summands x) (summands y) (summand-places x p.0) (summand-places y p.1)
  summand-places (product x y) p =
      product-places (normal_of (summands x)) (normal_of (summands y)) (summands x) (summands y)
      (normal-places (summands x) (summand-places x p.0)) (normal-places (summands y) (summand-places y p.1)) (summand-places x p.0) (summand-places y p.1)
  summand-places (quotient x y) p =
      division-places over (normal_of (summands x)) (normal_of (summands y)) (normal-places (summands x) (summand-places x p.0)) (normal-places (summands y) (summand-places y p.1))
  summand-places (remainder x y) p =
      division-places rest (normal_of (summands x)) (normal_of (summands y)) (normal-places (summands x) (summand-places x p.0)) (normal-places (summands y) (summand-places y p.1))

  -- the normal term has no other places than the term
  pub norm-places : (t : Tree) → HasPlacesBelow k t → HasFormPlacesBelow k (norm t)
  unfolding norm
  norm-places t p = normal-places (summands t) (summand-places t p)

  pub difference-places : (x y : Tree) → HasPlacesBelow k x → HasPlacesBelow k y → HasFormPlacesBelow k (difference x y)
  unfolding difference
  difference-places x y p q =
      normal-places (summands x ++ map (scaled (negsuc 0)) (summands y))
      (both-places (summands x) (map (scaled (negsuc 0)) (summands y)) (summand-places x p) (scaled-places (negsuc 0) (summands y) (summand-places y q)))

  multiplied-places : (c : ℤ) (n : Form) → HasFormPlacesBelow k n → HasFormPlacesBelow k (scale_parts c n)
  multiplied-places c (constant d) p = tt
  multiplied-places c (part d a n) p = (p.0, multiplied-places c n p.1)

  parts-places : (n : Form) → HasFormPlacesBelow k n → HasFormPlacesBelow k (without_constant n)
  parts-places (constant c) p = tt
  parts-places (part c a n) p = (p.0, parts-places n p.1)

  compared-places : (r : Relation) (n : Form) → HasFormPlacesBelow k n → HasLiteralPlacesBelow k (compared r n)
  compared-places r (constant c) p = by_test (compares r c (pos 0))
    where
      by_test : (b : Bool) → HasLiteralPlacesBelow k (if b then always else never)
      by_test true = tt
      by_test false = tt
  compared-places r (part c a n) p = by_sign (int_lt c (pos 0))
    where
      by_sign : (b : Bool) → HasLiteralPlacesBelow k (if b then kept (mirrored r) (scale_parts (negsuc 0) (part c a n)) else kept r (part c a n))
      by_sign true = parts-places (scale_parts (negsuc 0) (part c a n)) (multiplied-places (negsuc 0) (part c a n) p)
      by_sign false = parts-places (part c a n) p

  -- the form of a literal has no other places than its sides
  pub literal-places : (r : Relation) (x y : Tree) → HasPlacesBelow k x → HasPlacesBelow k y → HasLiteralPlacesBelow k (compared r (difference x y))
  literal-places r x y p q = compared-places r (difference x y) (difference-places x y p q)
