-- How two normal terms compare, part by part.
use Rattle.std.proofs.Common.{◌≡◌, ◌∙◌, refl, sym, ap, ℕ, ◌+◌, ◌<◌, ◌≤◌, ℤ, Some, List, [], ◌∷◌, length, drop, slice_get, length-drop, arith}
use Rattle.std.proofs.lemmas.List.{drop_all}
use Rattle.std.proofs.lemmas.Option.{slice_get_within}
use Rattle.std.specs.Ordering.{int_cmp, ordering_then}
use Rattle.std.specs.declared.cmp.Ordering.{Ordering}
use Rattle.std.specs.declared.cmp.Ordering.TheVariants.{Less, Equal, Greater}
use Rattle.sym_simplify.specs.declared.normal.Normal.{Normal, out-Normal}
use Rattle.sym_simplify.specs.declared.normal.Part.{Part}
use Rattle.sym_simplify.specs.Form.{constant}
use Rattle.sym_simplify.specs.Held.{factor_of, form_of, parts_before}
use Rattle.sym_simplify.specs.Order.{form_cmp, factor_cmp}
use Rattle.sym_simplify.proofs.HeldParts.{held}
use Rattle.sym_simplify.proofs.OpenParts.{drop_first}

-- the rests from a position on compare as the whole terms do, whatever the constants are
pub record Comparing (ps qs : List Part) (at : ℕ) : Type 0 where
  pub left_in : at ≤ length ps
  pub right_in : at ≤ length qs
  pub same : (c d : ℤ) → form_cmp (parts_before (drop at ps) (constant c)) (parts_before (drop at qs) (constant d)) ≡ form_cmp (parts_before ps (constant c)) (parts_before qs (constant d))

abbrev compared : Part → Part → Ordering
compared p q = ordering_then (factor_cmp (factor_of p.atom) (factor_of q.atom)) (int_cmp p.coefficient q.coefficient)

then-less : (o p q : Ordering) → Less ≡ ordering_then o p → Less ≡ ordering_then o (ordering_then p q)
then-less Less p q e = e
then-less Equal Less q e = e
then-less Equal Equal q e = absurd cc
then-less Equal Greater q e = absurd cc
then-less Greater p q e = absurd cc

then-greater : (o p q : Ordering) → Greater ≡ ordering_then o p → Greater ≡ ordering_then o (ordering_then p q)
then-greater Less p q e = absurd cc
then-greater Equal Less q e = absurd cc
then-greater Equal Equal q e = absurd cc
then-greater Equal Greater q e = e
then-greater Greater p q e = e

then-equal : (o p q : Ordering) → Equal ≡ ordering_then o p → q ≡ ordering_then o (ordering_then p q)
then-equal Less p q e = absurd cc
then-equal Equal Less q e = absurd cc
then-equal Equal Equal q e = refl
then-equal Equal Greater q e = absurd cc
then-equal Greater p q e = absurd cc

module _ (ps qs : List Part) (at : ℕ) (p q : Part) (there : slice_get ps at ≡ Some p) (here : slice_get qs at ≡ Some q) where
  from : (c d : ℤ) → form_cmp (parts_before (drop at ps) (constant c)) (parts_before (drop at qs) (constant d))
      ≡ ordering_then (factor_cmp (factor_of p.atom) (factor_of q.atom)) (ordering_then (int_cmp p.coefficient q.coefficient)
      (form_cmp (parts_before (drop (at + 1) ps) (constant c)) (parts_before (drop (at + 1) qs) (constant d))))
  from c d =
      ap (λ xs. form_cmp (parts_before xs (constant c)) (parts_before (drop at qs) (constant d))) (drop_first ps at p there)
      ∙ ap (λ ys. form_cmp (parts_before (p ∷ drop (at + 1) ps) (constant c)) (parts_before ys (constant d))) (drop_first qs at q here)

  pub compare_step : Equal ≡ compared p q → Comparing ps qs at → Comparing ps qs (at + 1)
  compare_step e h = record {
    left_in = omega (arith, slice_get_within ps at p there);
    right_in = omega (arith, slice_get_within qs at q here);
    same = λ c d. then-equal (factor_cmp (factor_of p.atom) (factor_of q.atom)) (int_cmp p.coefficient q.coefficient) _ e ∙ (sym (from c d) ∙ h.same c d);
  }

  pub compare_less : (c d : ℤ) → Less ≡ compared p q → Comparing ps qs at → Less ≡ form_cmp (parts_before ps (constant c)) (parts_before qs (constant d))
  compare_less c d e h = then-less (factor_cmp (factor_of p.atom) (factor_of q.atom)) (int_cmp p.coefficient q.coefficient) _ e ∙ (sym (from c d) ∙ h.same c d)

  pub compare_greater : (c d : ℤ) → Greater ≡ compared p q → Comparing ps qs at → Greater ≡ form_cmp (parts_before ps (constant c)) (parts_before qs (constant d))
  compare_greater c d e h = then-greater (factor_cmp (factor_of p.atom) (factor_of q.atom)) (int_cmp p.coefficient q.coefficient) _ e ∙ (sym (from c d) ∙ h.same c d)

longer : (xs : List Part) (c d : ℤ) → 0 < length xs → Greater ≡ form_cmp (parts_before xs (constant c)) (constant d)
longer [] c d h = absurd (omega arith)
longer (x ∷ xs) c d h = refl

shorter : (ys : List Part) (c d : ℤ) → 0 < length ys → Less ≡ form_cmp (constant c) (parts_before ys (constant d))
shorter [] c d h = absurd (omega arith)
shorter (y ∷ ys) c d h = refl

pub compare_longer : (ps qs : List Part) (at : ℕ) (c d : ℤ) → at < length ps → length qs ≤ at → Comparing ps qs at → Greater ≡ form_cmp (parts_before ps (constant c)) (parts_before qs (constant d))
compare_longer ps qs at c d l k h =
    longer (drop at ps) c d (omega (arith, length-drop at ps))
    ∙ (ap (λ ys. form_cmp (parts_before (drop at ps) (constant c)) (parts_before ys (constant d))) (sym (drop_all at qs k)) ∙ h.same c d)

pub compare_shorter : (ps qs : List Part) (at : ℕ) (c d : ℤ) → length ps ≤ at → at < length qs → Comparing ps qs at → Less ≡ form_cmp (parts_before ps (constant c)) (parts_before qs (constant d))
compare_shorter ps qs at c d l k h =
    shorter (drop at qs) c d (omega (arith, length-drop at qs))
    ∙ (ap (λ xs. form_cmp (parts_before xs (constant c)) (parts_before (drop at qs) (constant d))) (sym (drop_all at ps l)) ∙ h.same c d)

pub compare_ends : (ps qs : List Part) (at : ℕ) (c d : ℤ) → length ps ≤ at → length qs ≤ at → Comparing ps qs at → int_cmp c d ≡ form_cmp (parts_before ps (constant c)) (parts_before qs (constant d))
compare_ends ps qs at c d l k h =
    ap (λ xs. form_cmp (parts_before xs (constant c)) (constant d)) (sym (drop_all at ps l))
    ∙ (ap (λ ys. form_cmp (parts_before (drop at ps) (constant c)) (parts_before ys (constant d))) (sym (drop_all at qs k)) ∙ h.same c d)

-- what the parts say is what the normal terms say
pub by_parts : (o : Ordering) (m n : Normal) (ps qs : List Part) → ps ≡ (out-Normal m).parts → qs ≡ (out-Normal n).parts
    → o ≡ form_cmp (parts_before ps (constant (out-Normal m).constant)) (parts_before qs (constant (out-Normal n).constant)) → o ≡ form_cmp (form_of m) (form_of n)
by_parts o m n ps qs e f h =
    h ∙ (ap (λ xs. form_cmp (parts_before xs (constant (out-Normal m).constant)) (parts_before qs (constant (out-Normal n).constant))) e
    ∙ (ap (λ ys. form_cmp (parts_before (out-Normal m).parts (constant (out-Normal m).constant)) (parts_before ys (constant (out-Normal n).constant))) f
    ∙ (ap (λ x. form_cmp x (parts_before (out-Normal n).parts (constant (out-Normal n).constant))) (sym (held m)) ∙ ap (form_cmp (form_of m)) (sym (held n)))))
