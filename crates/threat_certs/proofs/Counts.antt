-- The constraints of literals and of OLD copies are counted by their items.
use Rattle.std.proofs.Common.{◌≡◌, ◌⊎◌, inl, inr, ◌∙◌, refl, sym, ap, subst, ℕ, zero, suc, ◌+◌, ◌-◌, ◌<◌, ◌≤◌, ℤ, pos, negsuc, neg_ℤ, ◌+ℤ◌, ◌-ℤ◌, ◌*ℤ◌, ◌≤ℤ◌, ◌<ℤ◌, Bool, true, false, cond, Option, Some, None, List, [], ◌∷◌, ◌++◌, length, slice_get, arith}
use Rattle.std.specs.Int.{int_div_euclid}
use Rattle.std.specs.List.{flat_map}
use Rattle.std.specs.Ordering.{int_eq}
use Rattle.std.proofs.Math.IntN.{*ℤ-zero, zero-*ℤ}
use Rattle.std.proofs.lemmas.Int.{ints}
use Rattle.std.proofs.lemmas.Option.{same_Some, none-some}
use Rattle.il_core.specs.Evaluation.{State, value_at}
use Rattle.il_core.specs.LineGraph.{IsIn}
use Rattle.il_core.specs.Places.{AreCheckedPlaces}
use Rattle.il_core.specs.Run.{inout_from, variable_count}
use Rattle.il_core.specs.declared.certificate.Item.{Item}
use Rattle.il_core.specs.declared.certificate.Item.TheVariants.{Up, Down, Never, OldUp, OldDown}
use Rattle.il_core.specs.declared.line.Place.{Place}
use Rattle.il_core.specs.declared.operator.Relation.{Relation}
use Rattle.il_core.specs.declared.operator.Relation.TheVariants.{Eq, Ne, Lt, Le, Gt, Ge}
use Rattle.il_core.proofs.Integers.{product-monotone, product-swap}
use Rattle.sym_simplify.specs.Form.{Form, constant, part, place, pair, form_value}
use Rattle.sym_simplify.specs.Norm.{alone}
use Rattle.sym_simplify.specs.Normal.{constant_of}
use Rattle.sym_simplify.specs.Merge.{scale_parts}
use Rattle.sym_simplify.specs.Literal.{LiteralForm, always, never, keep}
use Rattle.sym_simplify.specs.Easy.{single, double, multiple_of, IsKept}
use Rattle.sym_simplify.specs.declared.easy.Multiple.{Multiple}
use Rattle.sym_simplify.proofs.NormValues.{normal-value}
use Rattle.difference.specs.Constraints as difference
use Rattle.difference.specs.declared.constraint.Constraint.{Constraint}
use Rattle.path_inputs.specs.Bounding.{at_most, at_least, impossible, relation_reading, multiple_reading, constraints_in, constraints_of, not_above, equal_from, copies, all_constraints}
use Rattle.path_inputs.proofs.Copies.{copy-count}
use Rattle.path_inputs.proofs.Readings.{multiple-is}
use Rattle.cert_rules.specs.Quantity.{highest, lowest, IsReduced, summands_in, times_and, IsCopyOf, less}
use Rattle.threat_certs.specs.Counting.{IsOfPlaces, IsCounted, AreCounted, relation_items, easy_items, items_in, items_from, copied_items, copy_items}
use Rattle.threat_certs.proofs.Quantities.{times-total, one, minus-one}
use Rattle.threat_certs.proofs.Single.{first}
use Rattle.threat_certs.proofs.Left.{times-one, places-scaled}

-- the parts of a multiple without its coefficient
abbrev bare_right : Option ℕ → Form
bare_right None = constant (pos 0)
bare_right (Some q) = part (negsuc 0) (place q) (constant (pos 0))

abbrev bare : Multiple → Form
bare m = part (pos 1) (place m.left) (bare_right m.right)

times-minus_one : (c : ℤ) → c *ℤ negsuc 0 ≡ neg_ℤ c
times-minus_one c = grind (arith, ints)

single-scaled : (c : ℤ) (p : ℕ) (d : ℤ) → d ≡ pos 0 → scale_parts c (bare (single c p)) ≡ part c (place p) (constant d)
single-scaled c p d e =
    ap (λ x. part x (place p) (constant (c *ℤ pos 0))) (times-one c) ∙ ap (λ x. part c (place p) (constant x)) (*ℤ-zero c ∙ sym e)

double-scaled : (c : ℤ) (p : ℕ) (e : ℤ) (q : ℕ) (d : ℤ) → e ≡ neg_ℤ c → d ≡ pos 0
    → scale_parts c (bare (double c p q)) ≡ part c (place p) (part e (place q) (constant d))
double-scaled c p e q d f g =
    ap (λ x. part x (place p) (part (c *ℤ negsuc 0) (place q) (constant (c *ℤ pos 0)))) (times-one c)
    ∙ (ap (λ x. part c (place p) (part x (place q) (constant (c *ℤ pos 0)))) (times-minus_one c ∙ sym f)
    ∙ ap (λ x. part c (place p) (part e (place q) (constant x))) (*ℤ-zero c ∙ sym g))

none-either : (t : Bool) (m : Multiple) → cond t None None ≡ Some m → ⊥
none-either true m h = none-some m h
none-either false m h = none-some m h

double-when : (c : ℤ) (p : ℕ) (e : ℤ) (q : ℕ) (d : ℤ) (m : Multiple) (t : Bool) → int_eq e (neg_ℤ c) ≡ t → cond t (Some (double c p q)) None ≡ Some m → d ≡ pos 0
    → scale_parts m.coefficient (bare m) ≡ part c (place p) (part e (place q) (constant d))
double-when c p e q d m true f h g =
    subst (λ x. scale_parts x.coefficient (bare x) ≡ part c (place p) (part e (place q) (constant d))) (same_Some (double c p q) m h) (double-scaled c p e q d (grind (arith, ints)) g)
double-when c p e q d m false f h g = absurd (none-some m h)

-- a multiple is its coefficient times its reduced parts
multiple-scaled : (n : Form) (m : Multiple) → multiple_of n ≡ Some m → constant_of n ≡ pos 0 → scale_parts m.coefficient (bare m) ≡ n
multiple-scaled (constant d) m h g = absurd (none-some m h)
multiple-scaled (part c (place p) (constant d)) m h g =
    subst (λ x. scale_parts x.coefficient (bare x) ≡ part c (place p) (constant d)) (same_Some (single c p) m h) (single-scaled c p d g)
multiple-scaled (part c (pair k i j) (constant d)) m h g = absurd (none-some m h)
multiple-scaled (part c (place p) (part e (place q) (constant d))) m h g = double-when c p e q d m (int_eq e (neg_ℤ c)) refl h g
multiple-scaled (part c (place p) (part e (pair l x y) (constant d))) m h g = absurd (none-either (int_eq e (neg_ℤ c)) m h)
multiple-scaled (part c (pair k i j) (part e (place q) (constant d))) m h g = absurd (none-either (int_eq e (neg_ℤ c)) m h)
multiple-scaled (part c (pair k i j) (part e (pair l x y) (constant d))) m h g = absurd (none-either (int_eq e (neg_ℤ c)) m h)
multiple-scaled (part c a (part e b (part f x n))) m h g = absurd (none-some m h)

scaled-first : (c : ℤ) (n : Form) → first (scale_parts c n) ≡ c *ℤ first n
scaled-first c (constant d) = sym (*ℤ-zero c)
scaled-first c (part d a n) = refl

side : (x : ℤ) → (x ≤ℤ pos 0) ⊎ (pos 1 ≤ℤ x)
side x = grind (arith, ints)

-- a factor of a number above 0 is at most that number
factor-most : (d g : ℕ) (x : ℤ) → pos d *ℤ x ≡ pos g → 0 < g → d ≤ g
factor-most d g x e h = elim (side x) [
  | inl l ↦
      let m = product-monotone x (pos 0) d l in
      let z = zero-*ℤ (pos d) in
      let t = product-swap x (pos d) in
      absurd (omega (arith, ints))
  | inr l ↦
      let m = product-monotone (pos 1) x d l in
      let z = one (pos d) in
      let t = product-swap x (pos d) in
      omega (arith, ints)
]

multiple-reduced : (n : Form) (m : Multiple) (g : ℕ) → scale_parts (pos g) (bare m) ≡ n → 0 < g → IsReduced n g (bare m)
multiple-reduced n m g e h = record {
  multiple = e;
  greatest = λ d other f. factor-most d g (first other) (sym (scaled-first (pos d) other) ∙ (ap first f ∙ (sym (ap first e) ∙ times-one (pos g)))) h;
}

-- a number above 0 is a natural number
record IsNatural (c : ℤ) : Type 0 where
  pub number : ℕ
  pub same : c ≡ pos number
  pub above : 0 < number

natural : (c : ℤ) → pos 0 <ℤ c → IsNatural c
natural (pos g) h = record { number = g; same = refl; above = omega (arith, ints) }
natural (negsuc g) h = absurd (omega (arith, ints))

right-value : (o : Option ℕ) (s : State) → form_value (bare_right o) s ≡ neg_ℤ (difference.value_at s o)
right-value None s = refl
right-value (Some q) s = let e = minus-one (value_at s q) in omega (arith, ints)

bare-value : (m : Multiple) (s : State) → form_value (bare m) s ≡ value_at s m.left +ℤ neg_ℤ (difference.value_at s m.right)
bare-value m s = ap (λ v. v +ℤ form_value (bare_right m.right) s) (one (value_at s m.left)) ∙ ap (λ v. value_at s m.left +ℤ v) (right-value m.right s)

bare-places : (o : Option ℕ) → IsOfPlaces (summands_in (bare_right o))
bare-places None = tt
bare-places (Some q) = tt

up-room : (d v w : ℤ) → d +ℤ (negsuc 0 *ℤ (v +ℤ neg_ℤ w)) ≡ (d -ℤ v) +ℤ w
up-room d v w = let e = minus-one (v +ℤ neg_ℤ w) in omega (arith, ints)

down-room : (d v w : ℤ) → d +ℤ (pos 1 *ℤ (v +ℤ neg_ℤ w)) ≡ (d -ℤ w) +ℤ v
down-room d v w = let e = one (v +ℤ neg_ℤ w) in omega (arith, ints)

never-room : negsuc 0 +ℤ pos 0 ≡ (negsuc 0 -ℤ pos 0) +ℤ pos 0
never-room = omega (arith, ints)

module _ (places : List Place) (pc : ℕ) (fs : List LiteralForm) where
  -- a literal that a number bounds from above, and from below
  pub up-counted : (i : ℕ) (n : Form) (r : Relation) (b : ℤ) (m : Multiple) (most : ℤ) → slice_get fs i ≡ Some (keep n r b) → IsKept (keep n r b) → multiple_of n ≡ Some m
      → highest r b ≡ Some most → IsCounted places pc fs (at_most m most) (Up i)
  up-counted i n r b m most there kept e allowed =
      let w = multiple-is n m e in
      let g = natural m.coefficient (w.above kept.2) in
      let q = times_and (negsuc 0) (bare m) (int_div_euclid most (pos g.number)) in
      record {
        quantity = q;
        is_quantity = (
          keep n r b,
          there,
          record {
            parts = n;
            relation = r;
            bound = b;
            kept = refl;
            most = most;
            allowed = allowed;
            factor = g.number;
            reduced = bare m;
            divided = multiple-reduced n m g.number (subst (λ c. scale_parts c (bare m) ≡ n) g.same (multiple-scaled n m e kept.1)) g.above;
            quantity = refl;
          },
        );
        of_places = places-scaled (negsuc 0) (summands_in (bare_right m.right)) (bare-places m.right);
        room_is = λ s.
            normal-value q s ∙ (times-total (negsuc 0) (bare m) (int_div_euclid most (pos g.number)) s
            ∙ (ap (λ v. int_div_euclid most (pos g.number) +ℤ (negsuc 0 *ℤ v)) (bare-value m s)
            ∙ (up-room (int_div_euclid most (pos g.number)) (value_at s m.left) (difference.value_at s m.right)
            ∙ ap (λ c. (int_div_euclid most c -ℤ value_at s m.left) +ℤ difference.value_at s m.right) (sym g.same))));
      }

  pub down-counted : (i : ℕ) (n : Form) (r : Relation) (b : ℤ) (m : Multiple) (fewest : ℤ) → slice_get fs i ≡ Some (keep n r b) → IsKept (keep n r b) → multiple_of n ≡ Some m
      → lowest r b ≡ Some fewest → IsCounted places pc fs (at_least m fewest) (Down i)
  down-counted i n r b m fewest there kept e allowed =
      let w = multiple-is n m e in
      let g = natural m.coefficient (w.above kept.2) in
      let q = times_and (pos 1) (bare m) (int_div_euclid (neg_ℤ fewest) (pos g.number)) in
      record {
        quantity = q;
        is_quantity = (
          keep n r b,
          there,
          record {
            parts = n;
            relation = r;
            bound = b;
            kept = refl;
            fewest = fewest;
            allowed = allowed;
            factor = g.number;
            reduced = bare m;
            divided = multiple-reduced n m g.number (subst (λ c. scale_parts c (bare m) ≡ n) g.same (multiple-scaled n m e kept.1)) g.above;
            quantity = refl;
          },
        );
        of_places = places-scaled (pos 1) (summands_in (bare_right m.right)) (bare-places m.right);
        room_is = λ s.
            normal-value q s ∙ (times-total (pos 1) (bare m) (int_div_euclid (neg_ℤ fewest) (pos g.number)) s
            ∙ (ap (λ v. int_div_euclid (neg_ℤ fewest) (pos g.number) +ℤ (pos 1 *ℤ v)) (bare-value m s)
            ∙ (down-room (int_div_euclid (neg_ℤ fewest) (pos g.number)) (value_at s m.left) (difference.value_at s m.right)
            ∙ ap (λ c. (int_div_euclid (neg_ℤ fewest) c -ℤ difference.value_at s m.right) +ℤ value_at s m.left) (sym g.same))));
      }

  relation-counted : (i : ℕ) (n : Form) (r : Relation) (b : ℤ) (m : Multiple) → slice_get fs i ≡ Some (keep n r b) → IsKept (keep n r b) → multiple_of n ≡ Some m
      → AreCounted places pc fs (constraints_in (relation_reading m r b)) (relation_items i r)
  relation-counted i n Eq b m there kept e = (up-counted i n Eq b m b there kept e refl, (down-counted i n Eq b m b there kept e refl, refl))
  relation-counted i n Ne b m there kept e = refl
  relation-counted i n Lt b m there kept e = (up-counted i n Lt b m (b -ℤ pos 1) there kept e refl, refl)
  relation-counted i n Le b m there kept e = (up-counted i n Le b m b there kept e refl, refl)
  relation-counted i n Gt b m there kept e = (down-counted i n Gt b m (b +ℤ pos 1) there kept e refl, refl)
  relation-counted i n Ge b m there kept e = (down-counted i n Ge b m b there kept e refl, refl)

  never-counted : (i : ℕ) → slice_get fs i ≡ Some never → IsCounted places pc fs impossible (Never i)
  never-counted i there = record { quantity = alone (negsuc 0) ∷ []; is_quantity = (there, refl); of_places = tt; room_is = λ s. never-room }

  form-counted : (i : ℕ) (f : LiteralForm) → slice_get fs i ≡ Some f → IsKept f → AreCounted places pc fs (constraints_of f) (items_in i f)
  form-counted i always there kept = refl
  form-counted i never there kept = (never-counted i there, refl)
  form-counted i (keep n r b) there kept = by_multiple (multiple_of n) refl
    where
      by_multiple : (o : Option Multiple) → multiple_of n ≡ o → AreCounted places pc fs (constraints_in (multiple_reading o r b)) (easy_items i o r)
      by_multiple None e = refl
      by_multiple (Some m) e = relation-counted i n r b m there kept e

  pub counted-append : (cs : List Constraint) (items : List Item) (ds : List Constraint) (more : List Item) → AreCounted places pc fs cs items → AreCounted places pc fs ds more
      → AreCounted places pc fs (cs ++ ds) (items ++ more)
  counted-append [] [] ds more h k = k
  counted-append [] (i ∷ items) ds more h k = absurd cc
  counted-append (c ∷ cs) [] ds more h k = absurd h
  counted-append (c ∷ cs) (i ∷ items) ds more h k = (h.0, counted-append cs items ds more h.1 k)

  forms-counted : (i : ℕ) (gs : List LiteralForm) → ((j : ℕ) (f : LiteralForm) → slice_get gs j ≡ Some f → slice_get fs (i + j) ≡ Some f) → ((f : LiteralForm) → IsIn gs f → IsKept f)
      → AreCounted places pc fs (flat_map constraints_of gs) (items_from i gs)
  forms-counted i [] there kept = refl
  forms-counted i (f ∷ gs) there kept =
      let z : i + 0 ≡ i = omega arith in
      counted-append (constraints_of f) (items_in i f) (flat_map constraints_of gs) (items_from (suc i) gs)
      (form-counted i f (subst (λ k. slice_get fs k ≡ Some f) z (there 0 f refl)) (kept f (inl refl)))
      (forms-counted (suc i) gs (λ j g e. let y : i + suc j ≡ suc i + j = omega arith in subst (λ k. slice_get fs k ≡ Some g) y (there (suc j) g e)) (λ g k. kept g (inr k)))

old-room : (v w : ℤ) → (pos 1 *ℤ v) +ℤ ((negsuc 0 *ℤ w) +ℤ pos 0) ≡ (pos 0 -ℤ w) +ℤ v
old-room v w = let e = one v in let f = minus-one w in omega (arith, ints)

copy-counted : (places : List Place) (fs : List LiteralForm) (v p : ℕ) → IsCopyOf places v p
    → IsCounted places 0 fs (not_above p v) (OldUp p) × IsCounted places 0 fs (not_above v p) (OldDown p)
copy-counted places fs v p h = (
  record {
    quantity = less v p;
    is_quantity = (refl, (v, h, refl));
    of_places = tt;
    room_is = λ s. normal-value (less v p) s ∙ old-room (value_at s v) (value_at s p);
  },
  record {
    quantity = less p v;
    is_quantity = (refl, (v, h, refl));
    of_places = tt;
    room_is = λ s. normal-value (less p v) s ∙ old-room (value_at s p) (value_at s v);
  },
)

equal-counted : (places : List Place) (fs : List LiteralForm) (c : ℕ) (ks : List ℕ) → ((j k : ℕ) → slice_get ks j ≡ Some k → IsCopyOf places k (c + j))
    → AreCounted places 0 fs (equal_from c ks) (copied_items c (length ks))
equal-counted places fs c [] h = refl
equal-counted places fs c (k ∷ ks) h =
    let z : c + 0 ≡ c = omega arith in
    let both = copy-counted places fs k c (subst (IsCopyOf places k) z (h 0 k refl)) in
    (both.0, (both.1, equal-counted places fs (suc c) ks (λ j l e. let y : c + suc j ≡ suc c + j = omega arith in subst (IsCopyOf places l) y (h (suc j) l e))))

copies-counted : (places : List Place) (pc : ℕ) (fs : List LiteralForm) → AreCheckedPlaces places → AreCounted places pc fs (copies places pc) (copy_items places pc)
copies-counted places zero fs h =
    let e : length (inout_from 0 places) ≡ length places - variable_count places = (let c = copy-count places h.in_order in omega arith) in
    subst (λ n. AreCounted places 0 fs (copies places 0) (copied_items (variable_count places) n)) e
    (equal-counted places fs (variable_count places) (inout_from 0 places) (λ j k there. record { number = j; copied = there; behind = refl }))
copies-counted places (suc pc) fs h = refl

-- all constraints of literals over checked places are counted
pub all-counted : (places : List Place) (pc : ℕ) (fs : List LiteralForm) → AreCheckedPlaces places → ((f : LiteralForm) → IsIn fs f → IsKept f)
    → AreCounted places pc fs (all_constraints places pc fs) (copy_items places pc ++ items_from 0 fs)
all-counted places pc fs h kept =
    counted-append places pc fs (copies places pc) (copy_items places pc) (flat_map constraints_of fs) (items_from 0 fs)
    (copies-counted places pc fs h) (forms-counted places pc fs 0 fs (λ j f e. let z : 0 + j ≡ j = omega arith in subst (λ k. slice_get fs k ≡ Some f) (sym z) e) kept)

pub counted-length : (places : List Place) (pc : ℕ) (fs : List LiteralForm) (cs : List Constraint) (items : List Item) → AreCounted places pc fs cs items → length items ≡ length cs
counted-length places pc fs [] items h = ap length h
counted-length places pc fs (c ∷ cs) [] h = absurd h
counted-length places pc fs (c ∷ cs) (i ∷ items) h = ap suc (counted-length places pc fs cs items h.1)

-- the item that counts a constraint
pub counted-at : (places : List Place) (pc : ℕ) (fs : List LiteralForm) (cs : List Constraint) (items : List Item) (k : ℕ) (c : Constraint) → AreCounted places pc fs cs items
    → slice_get cs k ≡ Some c → (item : Item) × (slice_get items k ≡ Some item) × IsCounted places pc fs c item
counted-at places pc fs [] items k c h e = absurd (none-some c e)
counted-at places pc fs (d ∷ cs) [] k c h e = absurd h
counted-at places pc fs (d ∷ cs) (i ∷ items) zero c h e = (i, refl, subst (λ x. IsCounted places pc fs x i) (same_Some d c e) h.0)
counted-at places pc fs (d ∷ cs) (i ∷ items) (suc k) c h e = counted-at places pc fs cs items k c h.1 e
