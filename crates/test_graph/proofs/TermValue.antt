-- The term of an expression has the expression's value in each state in which the expression has one.
use Rattle.std.proofs.Common.{◌≡◌, ◌≢◌, refl, ap, ◌∙◌, ℤ, pos, negsuc, neg_ℤ, ◌+ℤ◌, ◌-ℤ◌, ◌*ℤ◌, ◌≤ℤ◌, Bool, true, false, cond, Option, Some, None, arith}
use Rattle.std.proofs.lemmas.Int.{ints}
use Rattle.std.proofs.lemmas.Bool.Decides.{Decides-int_eq}
use Rattle.std.specs.Int.{int_div_euclid, int_rem_euclid}
use Rattle.std.specs.Ordering.{int_eq}
use Rattle.std.specs.Option.{option_map}
use Rattle.il_core.specs.Expression as e
use Rattle.il_core.specs.Expression.{Expression}
use Rattle.il_core.specs.Evaluation.{State, whole, calculated, of_both}
use Rattle.il_core.specs.Machine.{wrapped}
use Rattle.il_core.specs.declared.line.Place.{Place}
use Rattle.il_core.specs.declared.operator.BinOp.{BinOp}
use Rattle.il_core.specs.declared.operator.BinOp.TheVariants.{Add, Sub, Mul, Div, Mod, Compare, And, Or}
use Rattle.il_core.proofs.BoundsHold.{unless_zero}
use Rattle.sym_terms.specs.Tree.{Tree}
use Rattle.sym_terms.specs.Value.{value_of}
use Rattle.test_graph.specs.Term.{term_of, operator_term, wrapped_term}

minus_one : (a : ℤ) → negsuc 0 *ℤ a ≡ neg_ℤ a
minus_one (pos a) = grind (arith, ints)
minus_one (negsuc a) = grind (arith, ints)

-- a number other than 0 fails the test for 0
pub not-zero : (y : ℤ) → y ≢ pos 0 → int_eq y (pos 0) ≡ false
not-zero y n = by_test (int_eq y (pos 0)) refl
  where
    by_test : (b : Bool) → int_eq y (pos 0) ≡ b → b ≡ false
    by_test true e = absurd (n ((Decides-int_eq y (pos 0)).0 e))
    by_test false e = refl

operator-value : (o : BinOp) (a b : Tree) (s : State) (x y v : ℤ) → value_of a s ≡ x → value_of b s ≡ y → calculated o x y ≡ Some v
    → value_of (operator_term o a b) s ≡ v
operator-value Add a b s x y v p q h = let k : x +ℤ y ≡ v = cc in rw (p, q) k
operator-value Sub a b s x y v p q h = let k : x -ℤ y ≡ v = cc in rw (p, q, minus_one y) (omega (arith, ints, k))
operator-value Mul a b s x y v p q h = let k : x *ℤ y ≡ v = cc in rw (p, q) k
operator-value Div a b s x y v p q h =
    let k = unless_zero y (int_div_euclid x y) v h in rw (p, q) (ap (λ t. cond t (pos 0) (int_div_euclid x y)) (not-zero y k.0) ∙ k.1)
operator-value Mod a b s x y v p q h =
    let k = unless_zero y (int_rem_euclid x y) v h in rw (p, q) (ap (λ t. cond t x (int_rem_euclid x y)) (not-zero y k.0) ∙ k.1)
operator-value (Compare r) a b s x y v p q h = absurd (cc)
operator-value And a b s x y v p q h = absurd (cc)
operator-value Or a b s x y v p q h = absurd (cc)

opposite-value : (o : Option ℤ) (t v : ℤ) → ((x : ℤ) → o ≡ Some x → t ≡ x) → option_map neg_ℤ o ≡ Some v → negsuc 0 *ℤ t ≡ v
opposite-value None t v f h = absurd (cc)
opposite-value (Some x) t v f h = let k : neg_ℤ x ≡ v = cc in minus_one t ∙ ap neg_ℤ (f x refl) ∙ k

both-values : (o : BinOp) (a b : Tree) (s : State) (u w : Option ℤ) (v : ℤ) → ((x : ℤ) → u ≡ Some x → value_of a s ≡ x) → ((y : ℤ) → w ≡ Some y → value_of b s ≡ y)
    → of_both (calculated o) u w ≡ Some v → value_of (operator_term o a b) s ≡ v
both-values o a b s None w v f g h = absurd (cc)
both-values o a b s (Some x) None v f g h = absurd (cc)
both-values o a b s (Some x) (Some y) v f g h = operator-value o a b s x y v (f x refl) (g y refl) h

pub term_value : (x : Expression) (s : State) (v : ℤ) → whole x s ≡ Some v → value_of (term_of x) s ≡ v
term_value (e.number n) s v h = cc
term_value (e.variable p) s v h = cc
term_value (e.flag p) s v h = absurd (cc)
term_value (e.truth b) s v h = absurd (cc)
term_value (e.minus a) s v h = opposite-value (whole a s) (value_of (term_of a) s) v (λ x k. term_value a s x k) h
term_value (e.opposite a) s v h = absurd (cc)
term_value (e.two o a b) s v h =
    both-values o (term_of a) (term_of b) s (whole a s) (whole b s) v (λ x k. term_value a s x k) (λ y k. term_value b s y k) h

-- the term of a wrapped value has that value
pub wrapped_value : (p : Place) (t : Tree) (s : State) → p.least ≤ℤ p.greatest → value_of (wrapped_term p t) s ≡ wrapped p (value_of t s)
wrapped_value p t s h =
    let long : ((p.greatest -ℤ p.least) +ℤ pos 1) ≢ pos 0 = λ e. absurd (omega (arith, ints)) in
    let same : value_of t s +ℤ neg_ℤ p.least ≡ value_of t s -ℤ p.least = omega (arith, ints) in
    ap (λ b. p.least +ℤ cond b (value_of t s +ℤ neg_ℤ p.least) (int_rem_euclid (value_of t s +ℤ neg_ℤ p.least) ((p.greatest -ℤ p.least) +ℤ pos 1)))
    (not-zero ((p.greatest -ℤ p.least) +ℤ pos 1) long)
    ∙ ap (λ v. p.least +ℤ int_rem_euclid v ((p.greatest -ℤ p.least) +ℤ pos 1)) same
