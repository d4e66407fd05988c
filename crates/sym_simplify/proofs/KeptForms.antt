-- The form of a literal is normal, begins above 0, and has small numbers.
use Rattle.std.proofs.Common.{◌≡◌, ◌≢◌, refl, ℕ, ◌+◌, ◌<◌, ℤ, pos, negsuc, ◌*ℤ◌, ◌<ℤ◌, neg_ℤ, unsigned_abs, Bool, true, false, if◌then◌else◌, ◌++◌, map, Result, Ok, Err, IfOk, arith}
use Rattle.std.specs.Prelude.{int_lt}
use Rattle.std.proofs.lemmas.Int.{ints}
use Rattle.il_core.specs.declared.operator.Relation.{Relation}
use Rattle.il_core.specs.Evaluation.{compares}
use Rattle.sym_terms.specs.Tree.{Tree}
use Rattle.sym_terms.specs.Measure.{weight}
use Rattle.sym_simplify.specs.declared.normal.LitForm.{LitForm}
use Rattle.sym_simplify.specs.Form.{Form, constant, part, Factor}
use Rattle.sym_simplify.specs.Norm.{scaled, summands, heft}
use Rattle.sym_simplify.specs.Normal.{IsBelow, IsNormal, constant_of}
use Rattle.sym_simplify.specs.Merge.{scale_parts}
use Rattle.sym_simplify.specs.Literal.{literal_form_of, always, never, difference, mirrored, without_constant, kept, compared, IsKeptBelow}
use Rattle.sym_simplify.proofs.Merges.{times_not_zero}
use Rattle.sym_simplify.proofs.Sides.{normal-is, append-sides, scaled-sides, summands-sides}
use Rattle.sym_simplify.proofs.LiteralForms.{minus-one, negated_heft, difference_heft}

difference-normal : (x y : Tree) → IsNormal (difference x y)
unfolding difference
difference-normal x y =
    normal-is (summands x ++ map (scaled (negsuc 0)) (summands y))
    (append-sides (summands x) (map (scaled (negsuc 0)) (summands y)) (summands-sides x) (scaled-sides (negsuc 0) (summands y) (summands-sides y)))

negated-below : (a : Factor) (n : Form) → IsBelow a n → IsBelow a (scale_parts (negsuc 0) n)
negated-below a (constant c) h = tt
negated-below a (part c b n) h = h

minus-one-not-zero : negsuc 0 ≢ pos 0
minus-one-not-zero e = let h : ⊥ = cc in h

negated-normal : (n : Form) → IsNormal n → IsNormal (scale_parts (negsuc 0) n)
negated-normal (constant c) h = tt
negated-normal (part c a n) h = (times_not_zero (negsuc 0) c minus-one-not-zero h.0, negated-below a n h.1, h.2, negated-normal n h.3)

without-below : (a : Factor) (n : Form) → IsBelow a n → IsBelow a (without_constant n)
without-below a (constant c) h = tt
without-below a (part c b n) h = h

without-normal : (n : Form) → IsNormal n → IsNormal (without_constant n)
without-normal (constant c) h = tt
without-normal (part c a n) h = (h.0, without-below a n h.1, h.2, without-normal n h.3)

without-zero : (n : Form) → constant_of (without_constant n) ≡ pos 0
without-zero (constant c) = refl
without-zero (part c a n) = without-zero n

negative-abs : (c : ℤ) → unsigned_abs (neg_ℤ c) ≡ unsigned_abs c
negative-abs c = grind (arith, ints)

without-heft : (n : Form) → heft (without_constant n) + unsigned_abs (neg_ℤ (constant_of n)) ≡ heft n
without-heft (constant c) = rw (negative-abs c) (omega arith)
without-heft (part c a n) = omega (arith, without-heft n)

above : (c : ℤ) → int_lt c (pos 0) ≡ false → c ≢ pos 0 → pos 0 <ℤ c
above c h k = grind (arith, ints)

below : (c : ℤ) → int_lt c (pos 0) ≡ true → pos 0 <ℤ (negsuc 0 *ℤ c)
below c h = rw (minus-one c) (grind (arith, ints))

kept-fits : (k : ℕ) (b : Bool) (r : Relation) (c : ℤ) (a : Factor) (n : Form) → int_lt c (pos 0) ≡ b → IsNormal (part c a n) → heft (part c a n) < k
    → IsKeptBelow k (if b then kept (mirrored r) (scale_parts (negsuc 0) (part c a n)) else kept r (part c a n))
kept-fits k true r c a n e h l =
    let m = scale_parts (negsuc 0) (part c a n) in
    (without-normal m (negated-normal (part c a n) h), without-zero m, below c e, rw (without-heft m, negated_heft (part c a n)) l)
kept-fits k false r c a n e h l =
    (without-normal (part c a n) h, without-zero (part c a n), above c e h.0, rw (without-heft (part c a n)) l)

decided-fits : (k : ℕ) (b : Bool) → IsKeptBelow k (if b then always else never)
decided-fits k true = tt
decided-fits k false = tt

compared-fits : (k : ℕ) (r : Relation) (n : Form) → IsNormal n → heft n < k → IsKeptBelow k (compared r n)
compared-fits k r (constant c) h l = decided-fits k (compares r c (pos 0))
compared-fits k r (part c a n) h l = kept-fits k (int_lt c (pos 0)) r c a n refl h l

-- so is a form that is a literal's
pub literal_fits : {E : Type 0} (o : Result LitForm E) (r : Relation) (x y : Tree) (k : ℕ) → weight x + weight y < k
    → IfOk o (λ f. literal_form_of f ≡ compared r (difference x y)) → IfOk o (λ f. IsKeptBelow k (literal_form_of f))
literal_fits (Ok f) r x y k l h =
    rw h (compared-fits k r (difference x y) (difference-normal x y) (omega (arith, difference_heft x y)))
literal_fits (Err e) r x y k l h = tt
