-- The form of a literal holds where the literal does.
use Rattle.std.proofs.Common.{◌≡◌, ◌∙◌, refl, sym, ap, ◌+◌, ◌*◌, ◌≤◌, ℤ, pos, negsuc, ◌+ℤ◌, ◌-ℤ◌, ◌*ℤ◌, neg_ℤ, Bool, true, false, not, if◌then◌else◌, List, [], ◌∷◌, ◌++◌, map, arith, Result, Ok, Err, IfOk}
use Rattle.std.proofs.Math.IntN.{pred_ℤ-*ℤ, zero-*ℤ}
use Rattle.std.proofs.lemmas.Int.{ints, unsigned_abs-mul}
use Rattle.std.specs.Ordering.{int_eq}
use Rattle.std.specs.Prelude.{int_lt}
use Rattle.il_core.specs.declared.operator.Relation.{Relation}
use Rattle.il_core.specs.declared.operator.Relation.TheVariants.{Eq, Ne, Lt, Le, Gt, Ge}
use Rattle.il_core.specs.Evaluation.{State, compares}
use Rattle.sym_terms.specs.Tree.{Tree}
use Rattle.sym_terms.specs.Value.{value_of}
use Rattle.sym_terms.specs.Measure.{weight}
use Rattle.sym_simplify.specs.Form.{Form, constant, part, factor_value, form_value}
use Rattle.sym_simplify.specs.Norm.{scaled, summands, norm, heft}
use Rattle.sym_simplify.specs.Normal.{constant_of}
use Rattle.sym_simplify.specs.Merge.{merge, scale, scale_parts}
use Rattle.sym_simplify.specs.declared.normal.LitForm.{LitForm}
use Rattle.sym_simplify.specs.declared.node.FormPart.{FormPart}
use Rattle.sym_simplify.specs.declared.node.FormNode.{FormNode}
use Rattle.sym_simplify.specs.Table.{factor_at, on_top}
use Rattle.sym_simplify.specs.Literal.{literal_form_of, always, never, keep, difference, mirrored, without_constant, kept, compared, form_holds}
use Rattle.sym_simplify.proofs.NormValues.{total, add-assoc, sum-times, times-times, normal-value, total-append, total-scaled, summands-value}
use Rattle.sym_simplify.proofs.Hefts.{reach, normal-heft, reach-append, reach-scaled, summands-reach}
use Rattle.sym_simplify.proofs.Merges.{difference_is}

pub minus-one : (x : ℤ) → negsuc 0 *ℤ x ≡ pos 0 -ℤ x
minus-one x = pred_ℤ-*ℤ (pos 0) x ∙ ap (λ v. v -ℤ x) (zero-*ℤ x)

same-eq : (p k v : ℤ) → p +ℤ k ≡ v → int_eq p (neg_ℤ k) ≡ int_eq v (pos 0)
same-eq p k v h = grind (arith, ints)

same-lt : (p k v : ℤ) → p +ℤ k ≡ v → int_lt p (neg_ℤ k) ≡ int_lt v (pos 0)
same-lt p k v h = grind (arith, ints)

-- a number on the other side
moved : (r : Relation) (p k v : ℤ) → p +ℤ k ≡ v → compares r p (neg_ℤ k) ≡ compares r v (pos 0)
moved Eq p k v h = same-eq p k v h
moved Ne p k v h = ap not (same-eq p k v h)
moved Lt p k v h = grind (arith, ints)
moved Le p k v h = grind (arith, ints)
moved Gt p k v h = grind (arith, ints)
moved Ge p k v h = grind (arith, ints)

turned-eq : (p k v : ℤ) → p +ℤ k ≡ pos 0 -ℤ v → int_eq p (neg_ℤ k) ≡ int_eq v (pos 0)
turned-eq p k v h = grind (arith, ints)

-- and both sides negated
turned : (r : Relation) (p k v : ℤ) → p +ℤ k ≡ pos 0 -ℤ v → compares (mirrored r) p (neg_ℤ k) ≡ compares r v (pos 0)
turned Eq p k v h = turned-eq p k v h
turned Ne p k v h = ap not (turned-eq p k v h)
turned Lt p k v h = grind (arith, ints)
turned Le p k v h = grind (arith, ints)
turned Gt p k v h = grind (arith, ints)
turned Ge p k v h = grind (arith, ints)

-- a normal term is its parts and its constant
parted-value : (n : Form) (s : State) → form_value (without_constant n) s +ℤ constant_of n ≡ form_value n s
parted-value (constant c) s = omega (arith, ints)
parted-value (part c a n) s =
    add-assoc (c *ℤ factor_value a s) (form_value (without_constant n) s) (constant_of n) ∙ ap (λ v. (c *ℤ factor_value a s) +ℤ v) (parted-value n s)

scaled-value : (c : ℤ) (n : Form) (s : State) → form_value (scale_parts c n) s ≡ c *ℤ form_value n s
scaled-value c (constant d) s = refl
scaled-value c (part d a n) s =
    ap (λ v. ((c *ℤ d) *ℤ factor_value a s) +ℤ v) (scaled-value c n s)
    ∙ (ap (λ v. v +ℤ (c *ℤ form_value n s)) (times-times c d (factor_value a s)) ∙ sym (sum-times c (d *ℤ factor_value a s) (form_value n s)))

decided : (b : Bool) (s : State) → form_holds (if b then always else never) s ≡ b
decided true s = refl
decided false s = refl

kept-by : (b : Bool) (r : Relation) (n : Form) (s : State)
    → form_holds (if b then kept (mirrored r) (scale_parts (negsuc 0) n) else kept r n) s ≡ compares r (form_value n s) (pos 0)
kept-by true r n s =
    turned r (form_value (without_constant (scale_parts (negsuc 0) n)) s) (constant_of (scale_parts (negsuc 0) n)) (form_value n s)
    (parted-value (scale_parts (negsuc 0) n) s ∙ (scaled-value (negsuc 0) n s ∙ minus-one (form_value n s)))
kept-by false r n s = moved r (form_value (without_constant n) s) (constant_of n) (form_value n s) (parted-value n s)

pub compared_holds : (r : Relation) (n : Form) (s : State) → form_holds (compared r n) s ≡ compares r (form_value n s) (pos 0)
compared_holds r (constant c) s = decided (compares r c (pos 0)) s
compared_holds r (part c a n) s = kept-by (int_lt c (pos 0)) r (part c a n) s

difference-value : (x y : Tree) (s : State) → form_value (difference x y) s ≡ value_of x s -ℤ value_of y s
unfolding difference
difference-value x y s =
    normal-value (summands x ++ map (scaled (negsuc 0)) (summands y)) s
    ∙ (total-append (summands x) (map (scaled (negsuc 0)) (summands y)) s
    ∙ (ap (λ v. total (summands x) s +ℤ v) (total-scaled (negsuc 0) (summands y) s ∙ minus-one (total (summands y) s))
    ∙ (rw (summands-value x s, summands-value y s) (less (value_of x s) (value_of y s)))))
  where
    less : (u v : ℤ) → u +ℤ (pos 0 -ℤ v) ≡ u -ℤ v
    less u v = omega (arith, ints)

equal-less : (u v : ℤ) → int_eq (u -ℤ v) (pos 0) ≡ int_eq u v
equal-less u v = grind (arith, ints)

compare-less : (r : Relation) (u v : ℤ) → compares r (u -ℤ v) (pos 0) ≡ compares r u v
compare-less Eq u v = equal-less u v
compare-less Ne u v = ap not (equal-less u v)
compare-less Lt u v = grind (arith, ints)
compare-less Le u v = grind (arith, ints)
compare-less Gt u v = grind (arith, ints)
compare-less Ge u v = grind (arith, ints)

-- the form of a literal holds where the literal does
pub literal_keeps : (r : Relation) (x y : Tree) (s : State) → form_holds (compared r (difference x y)) s ≡ compares r (value_of x s) (value_of y s)
literal_keeps r x y s =
    compared_holds r (difference x y) s ∙ (ap (λ v. compares r v (pos 0)) (difference-value x y s) ∙ compare-less r (value_of x s) (value_of y s))

-- the difference is the sum of one normal term and the negated other one
pub difference_merged : (x y : Tree) → difference x y ≡ merge (norm x) (scale (negsuc 0) (norm y))
unfolding difference norm
difference_merged x y = difference_is (summands x) (summands y)

-- its numbers are bounded by both weights
pub difference_heft : (x y : Tree) → heft (difference x y) ≤ weight x + weight y
unfolding difference
difference_heft x y =
    let h : reach (map (scaled (negsuc 0)) (summands y)) ≡ 1 * reach (summands y) = reach-scaled (negsuc 0) (summands y) in
    omega (arith, normal-heft (summands x ++ map (scaled (negsuc 0)) (summands y)), reach-append (summands x) (map (scaled (negsuc 0)) (summands y)), h, summands-reach x, summands-reach y)

-- a negated normal term reaches as far
pub negated_heft : (n : Form) → heft (scale_parts (negsuc 0) n) ≡ heft n
negated_heft (constant c) = rw (unsigned_abs-mul (negsuc 0) c) (omega arith)
negated_heft (part c a n) = rw (unsigned_abs-mul (negsuc 0) c, negated_heft n) (omega arith)

without-top : (nodes : List FormNode) (ps : List FormPart) (c : ℤ) → without_constant (on_top nodes ps (constant c)) ≡ on_top nodes ps (constant (pos 0))
without-top nodes [] c = refl
without-top nodes (p ∷ ps) c = ap (part p.coefficient (factor_at nodes p.atom)) (without-top nodes ps c)

constant-top : (nodes : List FormNode) (ps : List FormPart) (c : ℤ) → constant_of (on_top nodes ps (constant c)) ≡ c
constant-top nodes [] c = refl
constant-top nodes (p ∷ ps) c = constant-top nodes ps c

-- the form that parts and a constant make
pub kept_is : (nodes : List FormNode) (ps : List FormPart) (c : ℤ) (r : Relation) (m : Form) → m ≡ on_top nodes ps (constant (pos 0))
    → keep m r (neg_ℤ c) ≡ kept r (on_top nodes ps (constant c))
kept_is nodes ps c r m e = rw (e, without-top nodes ps c, constant-top nodes ps c) refl

-- so a form that is a literal's holds where the literal does
pub literal_value : {E : Type 0} (o : Result LitForm E) (r : Relation) (x y : Tree) → IfOk o (λ f. literal_form_of f ≡ compared r (difference x y))
    → IfOk o (λ f. (s : State) → form_holds (literal_form_of f) s ≡ compares r (value_of x s) (value_of y s))
literal_value (Ok f) r x y h = λ s. ap (λ g. form_holds g s) h ∙ literal_keeps r x y s
literal_value (Err e) r x y h = tt

-- the form of an equal normal term
pub form_again : {E : Type 0} (o : Result LitForm E) (r : Relation) (m n : Form) → m ≡ n → IfOk o (λ f. literal_form_of f ≡ compared r m) → IfOk o (λ f. literal_form_of f ≡ compared r n)
form_again (Ok f) r m n e h = h ∙ ap (compared r) e
form_again (Err x) r m n e h = tt
