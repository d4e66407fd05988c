-- What is made of parts at hand: longer lists of parts, sums and multiples.
use Rattle.std.proofs.Common.{◌≡◌, ◌≢◌, ◌∙◌, refl, sym, ap, ℕ, zero, suc, ◌+◌, ◌-◌, ◌*◌, ◌<◌, ◌≤◌, ◌⊎◌, ℤ, pos, ◌+ℤ◌, ◌*ℤ◌, unsigned_abs, Bool, true, false, if◌then◌else◌, Some, List, [], ◌∷◌, ◌++◌, map, length, drop, get_or, slice_get, inl, inr, add-one, append_assoc, arith}
use Rattle.std.proofs.Math.Nat.{mul-le-mul_left}
use Rattle.std.proofs.Math.Seq.{drop-cons}
use Rattle.std.proofs.lemmas.Int.{ints}
use Rattle.std.proofs.lemmas.List.{drop_all, append-nil}
use Rattle.std.proofs.lemmas.Option.{none-some, same_Some, slice_get_within, get_or_from_slice_get, slice_get-get_or}
use Rattle.std.specs.Ordering.{int_eq}
use Rattle.std.specs.declared.cmp.Ordering.TheVariants.{Less, Equal, Greater}
use Rattle.sym_simplify.specs.declared.node.FormId.{FormId}
use Rattle.sym_simplify.specs.declared.node.FormPart.{FormPart}
use Rattle.sym_simplify.specs.declared.node.FormNode.{FormNode}
use Rattle.sym_simplify.specs.Form.{Form, constant, part, Factor}
use Rattle.sym_simplify.specs.Order.{factor_cmp}
use Rattle.sym_simplify.specs.Norm.{before, shift, heft}
use Rattle.sym_simplify.specs.Merge.{merge_at, merge_part, merge, scale_parts, scale}
use Rattle.sym_simplify.specs.Table.{HasSidesBelow, form_at, factor_at, on_top, ArePartsWithin}
use Rattle.sym_simplify.specs.Open.{with_coefficient}
use Rattle.sym_simplify.proofs.Cells.{atom_kept, sides_further}
use Rattle.sym_terms.specs.Grown.{Keeps}
use Rattle.sym_terms.proofs.Grown.{keeps_le, keeps_trans}
use Rattle.sym_terms.proofs.Numbered.{get_push}

-- no parts name nothing
pub within_none : (nodes : List FormNode) → ArePartsWithin nodes []
within_none nodes = record { each = λ k p e. absurd (none-some p e) }

pub within_push : (nodes : List FormNode) (ps : List FormPart) (p : FormPart) → ArePartsWithin nodes ps → HasSidesBelow (length nodes) p.atom → ArePartsWithin nodes (ps ++ p ∷ [])
within_push nodes ps p w h = record { each = λ k q e. elim (get_push ps p k q e) [ inl i ↦ w.each k q i | inr i ↦ rw i.1 h ] }

pub on_top_push : (nodes : List FormNode) (ps : List FormPart) (p : FormPart) (n : Form) → on_top nodes (ps ++ p ∷ []) n ≡ on_top nodes ps (part p.coefficient (factor_at nodes p.atom) n)
on_top_push nodes [] p n = refl
on_top_push nodes (q ∷ ps) p n = ap (part q.coefficient (factor_at nodes q.atom)) (on_top_push nodes ps p n)

on-top-append : (nodes : List FormNode) (ps qs : List FormPart) (n : Form) → on_top nodes (ps ++ qs) n ≡ on_top nodes ps (on_top nodes qs n)
on-top-append nodes [] qs n = refl
on-top-append nodes (p ∷ ps) qs n = ap (part p.coefficient (factor_at nodes p.atom)) (on-top-append nodes ps qs n)

-- what is left from a position begins with the element there
pub drop_first : {X : Type 0} (xs : List X) (i : ℕ) (x : X) → slice_get xs i ≡ Some x → drop i xs ≡ x ∷ drop (i + 1) xs
drop_first xs i x e = drop-cons xs i x (slice_get_within xs i x e) ∙ rw (get_or_from_slice_get xs i x x e, add-one) refl

-- the constant reaches no further than the normal term
pub constant_heft : (nodes : List FormNode) (ps : List FormPart) (c : ℤ) → unsigned_abs c ≤ heft (on_top nodes ps (constant c))
constant_heft nodes [] c = omega arith
constant_heft nodes (p ∷ ps) c = omega (arith, constant_heft nodes ps c)

-- nor does a coefficient
pub part_heft : (nodes : List FormNode) (ps : List FormPart) (n : Form) (i : ℕ) (p : FormPart) → slice_get ps i ≡ Some p → unsigned_abs p.coefficient ≤ heft (on_top nodes ps n)
part_heft nodes [] n i p e = absurd (none-some p e)
part_heft nodes (q ∷ ps) n zero p e = let f : q ≡ p = same_Some q p e in rw (← f) (omega arith)
part_heft nodes (q ∷ ps) n (suc i) p e = omega (arith, part_heft nodes ps n i p e)

-- nor does a multiple where the multiplied bound does not
pub multiple_small : (f d : ℤ) (n k : ℕ) → unsigned_abs d ≤ n → unsigned_abs f * n < k → unsigned_abs f * unsigned_abs d < k
multiple_small f d n k h l = omega (arith, mul-le-mul_left {m = unsigned_abs d} {n = n} (unsigned_abs f) h)

-- the cells numbered so far have the normal term of the parts from a position on
pub record Closing (old now : List FormNode) (parts : List FormPart) (v : Form) (at : ℕ) (id : FormId) : Type 0 where
  pub kept : Keeps old now
  pub within : id.index < length now
  pub form : form_at now id ≡ on_top old (drop at parts) v

pub closing_start : (old now : List FormNode) (parts : List FormPart) (v : Form) (id : FormId) → Keeps old now → id.index < length now → form_at now id ≡ v
    → Closing old now parts v (length parts) id
closing_start old now parts v id k l e = record { kept = k; within = l; form = rw (drop_all (length parts) parts (omega arith)) e }

pub closing_step : (old now new : List FormNode) (parts : List FormPart) (v : Form) (at : ℕ) (p : FormPart) (id next : FormId)
    → slice_get parts (at - 1) ≡ Some p → 0 < at → ArePartsWithin old parts → Closing old now parts v at id → Keeps now new → next.index < length new
    → form_at new next ≡ part p.coefficient (factor_at now p.atom) (form_at now id) → Closing old new parts v (at - 1) next
closing_step old now new parts v at p id next e h w c k l f =
    let s : (at - 1) + 1 ≡ at = omega arith in
    record {
      kept = keeps_trans old now new c.kept k;
      within = l;
      form = f ∙ (rw (drop_first parts (at - 1) p e, s, atom_kept old now p.atom c.kept (w.each (at - 1) p e), c.form) refl);
    }

-- the sides of a part are below the table's length
pub sides_now : (old now : List FormNode) (parts : List FormPart) (at : ℕ) (p : FormPart) → ArePartsWithin old parts → Keeps old now → slice_get parts at ≡ Some p
    → HasSidesBelow (length now) p.atom
sides_now old now parts at p w k e = sides_further (length old) (length now) p.atom (keeps_le old now k) (w.each at p e)

-- with the coefficient multiplied
abbrev pub times_coefficient : ℤ → FormPart → FormPart
times_coefficient c p = with_coefficient (c *ℤ p.coefficient) p

pub multiplied_is : (nodes : List FormNode) (c d : ℤ) (ps : List FormPart) → on_top nodes (map (times_coefficient c) ps) (constant (c *ℤ d)) ≡ scale_parts c (on_top nodes ps (constant d))
multiplied_is nodes c d [] = refl
multiplied_is nodes c d (p ∷ ps) = ap (part (c *ℤ p.coefficient) (factor_at nodes p.atom)) (multiplied_is nodes c d ps)

scale-by : (c : ℤ) (n : Form) (b : Bool) → b ≡ false → (if b then constant (pos 0) else scale_parts c n) ≡ scale_parts c n
scale-by c n true h = let e : ⊥ = cc in absurd e
scale-by c n false h = refl

pub scale_other : (c : ℤ) (n : Form) → c ≢ pos 0 → scale c n ≡ scale_parts c n
scale_other c n h = scale-by c n (int_eq c (pos 0)) (grind (arith, ints))

pub scale_zero : (c : ℤ) (n : Form) → c ≡ pos 0 → scale c n ≡ constant (pos 0)
scale_zero c n h = rw h refl

pub within_map : (nodes : List FormNode) (c : ℤ) (ps : List FormPart) → ArePartsWithin nodes ps → ArePartsWithin nodes (map (times_coefficient c) ps)
within_map nodes c ps w = record { each = λ k p e. go ps k p e (λ j q f. w.each j q f) }
  where
    go : (qs : List FormPart) (k : ℕ) (p : FormPart) → slice_get (map (times_coefficient c) qs) k ≡ Some p
        → ((j : ℕ) (q : FormPart) → slice_get qs j ≡ Some q → HasSidesBelow (length nodes) q.atom) → HasSidesBelow (length nodes) p.atom
    go [] k p e g = absurd (none-some p e)
    go (q ∷ qs) zero p e g = rw (← same_Some (times_coefficient c q) p e) (g 0 q refl)
    go (q ∷ qs) (suc k) p e g = go qs k p e (λ j r f. g (suc j) r f)

-- the parts taken so far, before the sum of those left, have the sum of all
pub record Merging (nodes : List FormNode) (out left right : List FormPart) (i j : ℕ) (c d : ℤ) : Type 0 where
  pub left_in : i ≤ length left
  pub right_in : j ≤ length right
  pub sum : on_top nodes out (merge (on_top nodes (drop i left) (constant c)) (on_top nodes (drop j right) (constant d)))
      ≡ merge (on_top nodes left (constant c)) (on_top nodes right (constant d))
  pub within : ArePartsWithin nodes out

merge-less : (c : ℤ) (a : Factor) (m : Form) (d : ℤ) (b : Factor) (n : Form) → Less ≡ factor_cmp a b → merge (part c a m) (part d b n) ≡ part c a (merge m (part d b n))
merge-less c a m d b n h = ap (λ o. merge_at o c a d b (merge m (part d b n)) (merge m n) (merge_part c a (merge m) n)) (sym h)

merge-equal : (c : ℤ) (a : Factor) (m : Form) (d : ℤ) (b : Factor) (n : Form) → Equal ≡ factor_cmp a b → merge (part c a m) (part d b n) ≡ before (c +ℤ d) b (merge m n)
merge-equal c a m d b n h = ap (λ o. merge_at o c a d b (merge m (part d b n)) (merge m n) (merge_part c a (merge m) n)) (sym h)

merge-greater : (c : ℤ) (a : Factor) (m : Form) (d : ℤ) (b : Factor) (n : Form) → Greater ≡ factor_cmp a b → merge (part c a m) (part d b n) ≡ part d b (merge (part c a m) n)
merge-greater c a m d b n h = ap (λ o. merge_at o c a d b (merge m (part d b n)) (merge m n) (merge_part c a (merge m) n)) (sym h)

module _ (nodes : List FormNode) (left right : List FormPart) (c d : ℤ) where
  abbrev from-left : ℕ → Form
  from-left i = on_top nodes (drop i left) (constant c)

  abbrev from-right : ℕ → Form
  from-right j = on_top nodes (drop j right) (constant d)

  left-first : (i : ℕ) (p : FormPart) → slice_get left i ≡ Some p → from-left i ≡ part p.coefficient (factor_at nodes p.atom) (from-left (i + 1))
  left-first i p e = ap (λ ps. on_top nodes ps (constant c)) (drop_first left i p e)

  right-first : (j : ℕ) (q : FormPart) → slice_get right j ≡ Some q → from-right j ≡ part q.coefficient (factor_at nodes q.atom) (from-right (j + 1))
  right-first j q e = ap (λ ps. on_top nodes ps (constant d)) (drop_first right j q e)

  both-first : (i j : ℕ) (p q : FormPart) → slice_get left i ≡ Some p → slice_get right j ≡ Some q
      → merge (from-left i) (from-right j) ≡ merge (part p.coefficient (factor_at nodes p.atom) (from-left (i + 1))) (part q.coefficient (factor_at nodes q.atom) (from-right (j + 1)))
  both-first i j p q e f = ap (λ m. merge m (from-right j)) (left-first i p e) ∙ ap (merge (part p.coefficient (factor_at nodes p.atom) (from-left (i + 1)))) (right-first j q f)

  pub step_less : (out : List FormPart) (i j : ℕ) (p q : FormPart) → slice_get left i ≡ Some p → slice_get right j ≡ Some q → ArePartsWithin nodes left
      → Less ≡ factor_cmp (factor_at nodes p.atom) (factor_at nodes q.atom) → Merging nodes out left right i j c d → Merging nodes (out ++ p ∷ []) left right (i + 1) j c d
  step_less out i j p q e f w h m = record {
    left_in = omega (arith, slice_get_within left i p e);
    right_in = m.right_in;
    sum = on_top_push nodes out p _ ∙ (ap (on_top nodes out) (sym (both-first i j p q e f
        ∙ (merge-less p.coefficient (factor_at nodes p.atom) (from-left (i + 1)) q.coefficient (factor_at nodes q.atom) (from-right (j + 1)) h
        ∙ ap (λ n. part p.coefficient (factor_at nodes p.atom) (merge (from-left (i + 1)) n)) (sym (right-first j q f))))) ∙ m.sum);
    within = within_push nodes out p m.within (w.each i p e);
  }

  pub step_greater : (out : List FormPart) (i j : ℕ) (p q : FormPart) → slice_get left i ≡ Some p → slice_get right j ≡ Some q → ArePartsWithin nodes right
      → Greater ≡ factor_cmp (factor_at nodes p.atom) (factor_at nodes q.atom) → Merging nodes out left right i j c d → Merging nodes (out ++ q ∷ []) left right i (j + 1) c d
  step_greater out i j p q e f w h m = record {
    left_in = m.left_in;
    right_in = omega (arith, slice_get_within right j q f);
    sum = on_top_push nodes out q _ ∙ (ap (on_top nodes out) (sym (both-first i j p q e f
        ∙ (merge-greater p.coefficient (factor_at nodes p.atom) (from-left (i + 1)) q.coefficient (factor_at nodes q.atom) (from-right (j + 1)) h
        ∙ ap (λ n. part q.coefficient (factor_at nodes q.atom) (merge n (from-right (j + 1)))) (sym (left-first i p e))))) ∙ m.sum);
    within = within_push nodes out q m.within (w.each j q f);
  }

  push-by : (out : List FormPart) (k : ℤ) (q : FormPart) (n : Form) (b : Bool)
      → on_top nodes (if b then out else out ++ with_coefficient k q ∷ []) n ≡ on_top nodes out (if b then n else part k (factor_at nodes q.atom) n)
  push-by out k q n true = refl
  push-by out k q n false = on_top_push nodes out (with_coefficient k q) n

  push-within : (out : List FormPart) (k : ℤ) (q : FormPart) (b : Bool) → ArePartsWithin nodes out → HasSidesBelow (length nodes) q.atom
      → ArePartsWithin nodes (if b then out else out ++ with_coefficient k q ∷ [])
  push-within out k q true w h = w
  push-within out k q false w h = within_push nodes out (with_coefficient k q) w h

  pub step_equal : (out new : List FormPart) (i j : ℕ) (p q : FormPart) → slice_get left i ≡ Some p → slice_get right j ≡ Some q → ArePartsWithin nodes right
      → Equal ≡ factor_cmp (factor_at nodes p.atom) (factor_at nodes q.atom)
      → new ≡ (if int_eq (p.coefficient +ℤ q.coefficient) (pos 0) then out else out ++ with_coefficient (p.coefficient +ℤ q.coefficient) q ∷ [])
      → Merging nodes out left right i j c d → Merging nodes new left right (i + 1) (j + 1) c d
  step_equal out new i j p q e f w h g m = record {
    left_in = omega (arith, slice_get_within left i p e);
    right_in = omega (arith, slice_get_within right j q f);
    sum = ap (λ ps. on_top nodes ps (merge (from-left (i + 1)) (from-right (j + 1)))) g
        ∙ (push-by out (p.coefficient +ℤ q.coefficient) q (merge (from-left (i + 1)) (from-right (j + 1))) (int_eq (p.coefficient +ℤ q.coefficient) (pos 0))
        ∙ (ap (on_top nodes out) (sym (both-first i j p q e f
        ∙ merge-equal p.coefficient (factor_at nodes p.atom) (from-left (i + 1)) q.coefficient (factor_at nodes q.atom) (from-right (j + 1)) h)) ∙ m.sum));
    within = rw g (push-within out (p.coefficient +ℤ q.coefficient) q (int_eq (p.coefficient +ℤ q.coefficient) (pos 0)) m.within (w.each j q f));
  }

  shifted : (ps : List FormPart) → shift c (on_top nodes ps (constant d)) ≡ on_top nodes ps (constant (c +ℤ d))
  shifted [] = refl
  shifted (p ∷ ps) = ap (part p.coefficient (factor_at nodes p.atom)) (shifted ps)

  shifted-right : (ps : List FormPart) → merge (on_top nodes ps (constant c)) (constant d) ≡ on_top nodes ps (constant (c +ℤ d))
  shifted-right [] = refl
  shifted-right (p ∷ ps) = ap (part p.coefficient (factor_at nodes p.atom)) (shifted-right ps)

  rest-by : (i j : ℕ) → i ≤ length left → j ≤ length right → (length left ≤ i) ⊎ (length right ≤ j)
      → on_top nodes (drop i left ++ drop j right) (constant (c +ℤ d)) ≡ merge (from-left i) (from-right j)
  rest-by i j k l (inl h) = rw (drop_all i left h) (sym (shifted (drop j right)))
  rest-by i j k l (inr h) = rw (drop_all j right h, append-nil (drop i left)) (sym (shifted-right (drop i left)))

  pub finish : (out : List FormPart) (i j : ℕ) → (length left ≤ i) ⊎ (length right ≤ j) → Merging nodes out left right i j c d
      → on_top nodes ((out ++ drop i left) ++ drop j right) (constant (c +ℤ d)) ≡ merge (on_top nodes left (constant c)) (on_top nodes right (constant d))
  finish out i j h m =
      ap (λ ps. on_top nodes ps (constant (c +ℤ d))) (append_assoc out (drop i left) (drop j right))
      ∙ (on-top-append nodes out (drop i left ++ drop j right) (constant (c +ℤ d)) ∙ (ap (on_top nodes out) (rest-by i j m.left_in m.right_in h) ∙ m.sum))

-- the coefficients of parts reach no further together than their normal terms
pub coefficients_small : (nodes : List FormNode) (left right : List FormPart) (m n : Form) (i j : ℕ) (p q : FormPart) (k : ℕ)
    → heft (on_top nodes left m) + heft (on_top nodes right n) < k → slice_get left i ≡ Some p → slice_get right j ≡ Some q
    → unsigned_abs p.coefficient + unsigned_abs q.coefficient < k
coefficients_small nodes left right m n i j p q k h e f = omega (arith, part_heft nodes left m i p e, part_heft nodes right n j q f)

-- and so do the constants
pub constants_small : (nodes : List FormNode) (left right : List FormPart) (c d : ℤ) (k : ℕ)
    → heft (on_top nodes left (constant c)) + heft (on_top nodes right (constant d)) < k → unsigned_abs c + unsigned_abs d < k
constants_small nodes left right c d k h = omega (arith, constant_heft nodes left c, constant_heft nodes right d)

-- parts from a position on are within
pub within_append : (nodes : List FormNode) (ps qs : List FormPart) (i : ℕ) → ArePartsWithin nodes ps → ArePartsWithin nodes qs → ArePartsWithin nodes (ps ++ drop i qs)
within_append nodes ps qs i w v = record { each = λ k p e. go ps k p e (λ j q f. w.each j q f) }
  where
    more : (rs : List FormPart) (j k : ℕ) (p : FormPart) → slice_get (drop j rs) k ≡ Some p → ((l : ℕ) (q : FormPart) → slice_get rs l ≡ Some q → HasSidesBelow (length nodes) q.atom)
        → HasSidesBelow (length nodes) p.atom
    more rs zero k p e g = g k p e
    more [] (suc j) k p e g = absurd (none-some p e)
    more (r ∷ rs) (suc j) k p e g = more rs j k p e (λ l q f. g (suc l) q f)

    go : (rs : List FormPart) (k : ℕ) (p : FormPart) → slice_get (rs ++ drop i qs) k ≡ Some p → ((l : ℕ) (q : FormPart) → slice_get rs l ≡ Some q → HasSidesBelow (length nodes) q.atom)
        → HasSidesBelow (length nodes) p.atom
    go [] k p e g = more qs i k p e (λ l q f. v.each l q f)
    go (r ∷ rs) zero p e g = g zero p e
    go (r ∷ rs) (suc k) p e g = go rs k p e (λ l q f. g (suc l) q f)

module _ (nodes : List FormNode) (left right : List FormPart) (c d : ℤ) where
  pub finished : (out mid new : List FormPart) (i j : ℕ) → (length left ≤ i) ⊎ (length right ≤ j) → mid ≡ out ++ drop i left → new ≡ mid ++ drop j right
      → Merging nodes out left right i j c d → on_top nodes new (constant (c +ℤ d)) ≡ merge (on_top nodes left (constant c)) (on_top nodes right (constant d))
  finished out mid new i j h e f m = rw (f, e) (finish nodes left right c d out i j h m)

  pub finished_within : (out mid new : List FormPart) (i j : ℕ) → mid ≡ out ++ drop i left → new ≡ mid ++ drop j right → ArePartsWithin nodes left → ArePartsWithin nodes right
      → Merging nodes out left right i j c d → ArePartsWithin nodes new
  finished_within out mid new i j e f w v m = rw (f, e) (within_append nodes (out ++ drop i left) right j (within_append nodes out left i m.within w) v)

-- a multiplied coefficient is below what bounds the multiplied normal term
pub times_small : (nodes : List FormNode) (ps qs : List FormPart) (n : Form) (f : ℤ) (i : ℕ) (p : FormPart) (k : ℕ) → unsigned_abs f * heft (on_top nodes ps n) < k
    → qs ≡ ps → i < length ps → unsigned_abs f * unsigned_abs (get_or qs i p).coefficient < k
times_small nodes ps qs n f i p k h e l =
    rw e (multiple_small f (get_or ps i p).coefficient (heft (on_top nodes ps n)) k (part_heft nodes ps n i (get_or ps i p) (slice_get-get_or ps i p l)) h)

-- all parts multiplied
pub multiplied_end : (f g : ℤ) (out ps : List FormPart) (i : ℕ) → g ≡ f → length ps ≤ i → out ++ map (times_coefficient g) (drop i ps) ≡ map (times_coefficient g) ps
    → out ≡ map (times_coefficient f) ps
multiplied_end f g out ps i s h e =
    sym (append-nil out) ∙ (ap (λ qs. out ++ map (times_coefficient g) qs) (sym (drop_all i ps h)) ∙ (e ∙ ap (λ k. map (times_coefficient k) ps) s))

-- the constant is below what bounds the normal term
pub constant_small : (nodes : List FormNode) (ps : List FormPart) (c : ℤ) (k : ℕ) → heft (on_top nodes ps (constant c)) < k → unsigned_abs c < k
constant_small nodes ps c k h = omega (arith, constant_heft nodes ps c)

-- the parts from a position on, the first one apart
pub drop_part : (nodes : List FormNode) (ps : List FormPart) (i : ℕ) (p : FormPart) (n : Form) → i < length ps
    → on_top nodes (drop i ps) n ≡ part (get_or ps i p).coefficient (factor_at nodes (get_or ps i p).atom) (on_top nodes (drop (i + 1) ps) n)
drop_part nodes ps i p n l = ap (λ qs. on_top nodes qs n) (drop_first ps i (get_or ps i p) (slice_get-get_or ps i p l))
