-- Sums and multiples of counted atoms, part by part.
use Rattle.std.proofs.Common.{◌≡◌, ◌∙◌, refl, sym, ap, subst, ℕ, zero, suc, ◌+◌, ◌*◌, ◌^◌, ◌<◌, ◌≤◌, ◌⊎◌, inl, inr, ℤ, pos, ◌+ℤ◌, ◌*ℤ◌, unsigned_abs, Bool, true, false, if◌then◌else◌, Some, List, [], ◌∷◌, ◌++◌, map, length, drop, get_or, slice_get, append_assoc, arith}
use Rattle.std.proofs.Math.Nat.{mul-le-mul}
use Rattle.std.proofs.lemmas.List.{drop_all, append-nil}
use Rattle.std.proofs.lemmas.Option.{none-some, same_Some, slice_get_within, slice_get_read}
use Rattle.std.specs.Ordering.{int_eq}
use Rattle.std.specs.declared.cmp.Ordering.TheVariants.{Less, Equal, Greater}
use Rattle.sym_simplify.specs.Form.{Form, constant, part, Factor}
use Rattle.sym_simplify.specs.Norm.{before, shift}
use Rattle.sym_simplify.specs.Order.{factor_cmp}
use Rattle.sym_simplify.specs.Merge.{merge_at, merge_part, merge, scale_parts}
use Rattle.sym_simplify.proofs.OpenParts.{drop_first}
use Rattle.threat_certs.specs.declared.adding.Counted.{Counted}
use Rattle.threat_certs.specs.Adding.{factor_in, with_coefficient, counted_before, AreNumbersWithin}

pub before_push : (ps : List Counted) (p : Counted) (n : Form) → counted_before (ps ++ p ∷ []) n ≡ counted_before ps (part p.coefficient (factor_in p.factor) n)
before_push [] p n = refl
before_push (q ∷ ps) p n = ap (part q.coefficient (factor_in q.factor)) (before_push ps p n)

before-append : (ps qs : List Counted) (n : Form) → counted_before (ps ++ qs) n ≡ counted_before ps (counted_before qs n)
before-append [] qs n = refl
before-append (p ∷ ps) qs n = ap (part p.coefficient (factor_in p.factor)) (before-append ps qs n)

-- a coefficient is inside what all numbers are inside
pub part_within : (k : ℕ) (ps : List Counted) (n : Form) (i : ℕ) (p : Counted) → AreNumbersWithin k (counted_before ps n) → slice_get ps i ≡ Some p → unsigned_abs p.coefficient ≤ k
part_within k [] n i p h e = absurd (none-some p e)
part_within k (q ∷ ps) n zero p h e = let f : q ≡ p = same_Some q p e in rw (← f) h.0
part_within k (q ∷ ps) n (suc i) p h e = part_within k ps n i p h.1 e

-- and so is the constant
pub constant_within : (k : ℕ) (ps : List Counted) (c : ℤ) → AreNumbersWithin k (counted_before ps (constant c)) → unsigned_abs c ≤ k
constant_within k [] c h = h
constant_within k (p ∷ ps) c h = constant_within k ps c h.1

-- the parts taken so far, before the sum of those left, have the sum of all
pub record Merging (out left right : List Counted) (i j : ℕ) (c d : ℤ) : Type 0 where
  pub left_in : i ≤ length left
  pub right_in : j ≤ length right
  pub sum : counted_before out (merge (counted_before (drop i left) (constant c)) (counted_before (drop j right) (constant d)))
      ≡ merge (counted_before left (constant c)) (counted_before right (constant d))

merge-less : (c : ℤ) (a : Factor) (m : Form) (d : ℤ) (b : Factor) (n : Form) → Less ≡ factor_cmp a b → merge (part c a m) (part d b n) ≡ part c a (merge m (part d b n))
merge-less c a m d b n h = ap (λ o. merge_at o c a d b (merge m (part d b n)) (merge m n) (merge_part c a (merge m) n)) (sym h)

merge-equal : (c : ℤ) (a : Factor) (m : Form) (d : ℤ) (b : Factor) (n : Form) → Equal ≡ factor_cmp a b → merge (part c a m) (part d b n) ≡ before (c +ℤ d) b (merge m n)
merge-equal c a m d b n h = ap (λ o. merge_at o c a d b (merge m (part d b n)) (merge m n) (merge_part c a (merge m) n)) (sym h)

merge-greater : (c : ℤ) (a : Factor) (m : Form) (d : ℤ) (b : Factor) (n : Form) → Greater ≡ factor_cmp a b → merge (part c a m) (part d b n) ≡ part d b (merge (part c a m) n)
merge-greater c a m d b n h = ap (λ o. merge_at o c a d b (merge m (part d b n)) (merge m n) (merge_part c a (merge m) n)) (sym h)

module _ (left right : List Counted) (c d : ℤ) where
  abbrev from-left : ℕ → Form
  from-left i = counted_before (drop i left) (constant c)

  abbrev from-right : ℕ → Form
  from-right j = counted_before (drop j right) (constant d)

  left-first : (i : ℕ) (p : Counted) → slice_get left i ≡ Some p → from-left i ≡ part p.coefficient (factor_in p.factor) (from-left (i + 1))
  left-first i p e = ap (λ ps. counted_before ps (constant c)) (drop_first left i p e)

  right-first : (j : ℕ) (q : Counted) → slice_get right j ≡ Some q → from-right j ≡ part q.coefficient (factor_in q.factor) (from-right (j + 1))
  right-first j q e = ap (λ ps. counted_before ps (constant d)) (drop_first right j q e)

  both-first : (i j : ℕ) (p q : Counted) → slice_get left i ≡ Some p → slice_get right j ≡ Some q
      → merge (from-left i) (from-right j) ≡ merge (part p.coefficient (factor_in p.factor) (from-left (i + 1))) (part q.coefficient (factor_in q.factor) (from-right (j + 1)))
  both-first i j p q e f = ap (λ m. merge m (from-right j)) (left-first i p e) ∙ ap (merge (part p.coefficient (factor_in p.factor) (from-left (i + 1)))) (right-first j q f)

  pub step_less : (out : List Counted) (i j : ℕ) (p q : Counted) → slice_get left i ≡ Some p → slice_get right j ≡ Some q
      → Less ≡ factor_cmp (factor_in p.factor) (factor_in q.factor) → Merging out left right i j c d → Merging (out ++ p ∷ []) left right (i + 1) j c d
  step_less out i j p q e f h m = record {
    left_in = omega (arith, slice_get_within left i p e);
    right_in = m.right_in;
    sum = before_push out p _ ∙ (ap (counted_before out) (sym (both-first i j p q e f
        ∙ (merge-less p.coefficient (factor_in p.factor) (from-left (i + 1)) q.coefficient (factor_in q.factor) (from-right (j + 1)) h
        ∙ ap (λ n. part p.coefficient (factor_in p.factor) (merge (from-left (i + 1)) n)) (sym (right-first j q f))))) ∙ m.sum);
  }

  pub step_greater : (out : List Counted) (i j : ℕ) (p q : Counted) → slice_get left i ≡ Some p → slice_get right j ≡ Some q
      → Greater ≡ factor_cmp (factor_in p.factor) (factor_in q.factor) → Merging out left right i j c d → Merging (out ++ q ∷ []) left right i (j + 1) c d
  step_greater out i j p q e f h m = record {
    left_in = m.left_in;
    right_in = omega (arith, slice_get_within right j q f);
    sum = before_push out q _ ∙ (ap (counted_before out) (sym (both-first i j p q e f
        ∙ (merge-greater p.coefficient (factor_in p.factor) (from-left (i + 1)) q.coefficient (factor_in q.factor) (from-right (j + 1)) h
        ∙ ap (λ n. part q.coefficient (factor_in q.factor) (merge n (from-right (j + 1)))) (sym (left-first i p e))))) ∙ m.sum);
  }

  push-by : (out : List Counted) (k : ℤ) (q : Counted) (n : Form) (b : Bool)
      → counted_before (if b then out else out ++ with_coefficient k q ∷ []) n ≡ counted_before out (if b then n else part k (factor_in q.factor) n)
  push-by out k q n true = refl
  push-by out k q n false = before_push out (with_coefficient k q) n

  pub step_equal : (out new : List Counted) (i j : ℕ) (p q : Counted) → slice_get left i ≡ Some p → slice_get right j ≡ Some q
      → Equal ≡ factor_cmp (factor_in p.factor) (factor_in q.factor)
      → new ≡ (if int_eq (p.coefficient +ℤ q.coefficient) (pos 0) then out else out ++ with_coefficient (p.coefficient +ℤ q.coefficient) q ∷ [])
      → Merging out left right i j c d → Merging new left right (i + 1) (j + 1) c d
  step_equal out new i j p q e f h g m = record {
    left_in = omega (arith, slice_get_within left i p e);
    right_in = omega (arith, slice_get_within right j q f);
    sum = ap (λ ps. counted_before ps (merge (from-left (i + 1)) (from-right (j + 1)))) g
        ∙ (push-by out (p.coefficient +ℤ q.coefficient) q (merge (from-left (i + 1)) (from-right (j + 1))) (int_eq (p.coefficient +ℤ q.coefficient) (pos 0))
        ∙ (ap (counted_before out) (sym (both-first i j p q e f
        ∙ merge-equal p.coefficient (factor_in p.factor) (from-left (i + 1)) q.coefficient (factor_in q.factor) (from-right (j + 1)) h)) ∙ m.sum));
  }

  shifted : (ps : List Counted) → shift c (counted_before ps (constant d)) ≡ counted_before ps (constant (c +ℤ d))
  shifted [] = refl
  shifted (p ∷ ps) = ap (part p.coefficient (factor_in p.factor)) (shifted ps)

  shifted-right : (ps : List Counted) → merge (counted_before ps (constant c)) (constant d) ≡ counted_before ps (constant (c +ℤ d))
  shifted-right [] = refl
  shifted-right (p ∷ ps) = ap (part p.coefficient (factor_in p.factor)) (shifted-right ps)

  rest-by : (i j : ℕ) → (length left ≤ i) ⊎ (length right ≤ j) → counted_before (drop i left ++ drop j right) (constant (c +ℤ d)) ≡ merge (from-left i) (from-right j)
  rest-by i j (inl h) = rw (drop_all i left h) (sym (shifted (drop j right)))
  rest-by i j (inr h) = rw (drop_all j right h, append-nil (drop i left)) (sym (shifted-right (drop i left)))

  finish : (out : List Counted) (i j : ℕ) → (length left ≤ i) ⊎ (length right ≤ j) → Merging out left right i j c d
      → counted_before ((out ++ drop i left) ++ drop j right) (constant (c +ℤ d)) ≡ merge (counted_before left (constant c)) (counted_before right (constant d))
  finish out i j h m =
      ap (λ ps. counted_before ps (constant (c +ℤ d))) (append_assoc out (drop i left) (drop j right))
      ∙ (before-append out (drop i left ++ drop j right) (constant (c +ℤ d)) ∙ (ap (counted_before out) (rest-by i j h) ∙ m.sum))

  pub finished : (out mid new : List Counted) (i j : ℕ) → (length left ≤ i) ⊎ (length right ≤ j) → mid ≡ out ++ drop i left → new ≡ mid ++ drop j right
      → Merging out left right i j c d → counted_before new (constant (c +ℤ d)) ≡ merge (counted_before left (constant c)) (counted_before right (constant d))
  finished out mid new i j h e f m = rw (f, e) (finish out i j h m)

-- with the coefficient multiplied
abbrev pub times_coefficient : ℤ → Counted → Counted
times_coefficient f p = with_coefficient (f *ℤ p.coefficient) p

pub multiplied_is : (f d : ℤ) (ps : List Counted) → counted_before (map (times_coefficient f) ps) (constant (f *ℤ d)) ≡ scale_parts f (counted_before ps (constant d))
multiplied_is f d [] = refl
multiplied_is f d (p ∷ ps) = ap (part (f *ℤ p.coefficient) (factor_in p.factor)) (multiplied_is f d ps)

pub multiplied_end : (f g : ℤ) (out ps : List Counted) (i : ℕ) → g ≡ f → length ps ≤ i → out ++ map (times_coefficient g) (drop i ps) ≡ map (times_coefficient g) ps → out ≡ map (times_coefficient f) ps
multiplied_end f g out ps i s h e =
    sym (append-nil out) ∙ (ap (λ qs. out ++ map (times_coefficient g) qs) (sym (drop_all i ps h)) ∙ (e ∙ ap (λ k. map (times_coefficient k) ps) s))

-- what bounds the product of a factor and of the numbers bounds each product
product-small : (f c : ℤ) → unsigned_abs f ≤ 2 ^ 16 → unsigned_abs c ≤ 2 ^ 102 → unsigned_abs f * unsigned_abs c < 2 ^ 120
product-small f c h l = let m : unsigned_abs f * unsigned_abs c ≤ 2 ^ 16 * 2 ^ 102 = mul-le-mul h l in omega arith

pub part_small : (f : ℤ) (ps qs : List Counted) (n : Form) (i : ℕ) (p : Counted) → unsigned_abs f ≤ 2 ^ 16 → AreNumbersWithin (2 ^ 102) (counted_before ps n) → qs ≡ ps → i < length qs → p ≡ get_or qs i p
    → unsigned_abs f * unsigned_abs p.coefficient < 2 ^ 120
part_small f ps qs n i p h w e l g =
    product-small f p.coefficient h (part_within (2 ^ 102) ps n i p w (subst (λ xs. slice_get xs i ≡ Some p) e (slice_get_read qs (length qs) i p refl l g)))

pub constant_small : (f c : ℤ) (ps : List Counted) → unsigned_abs f ≤ 2 ^ 16 → AreNumbersWithin (2 ^ 102) (counted_before ps (constant c)) → unsigned_abs f * unsigned_abs c < 2 ^ 120
constant_small f c ps h w = product-small f c h (constant_within (2 ^ 102) ps c w)
