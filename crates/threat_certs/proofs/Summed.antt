-- Shares are summed up from the last one on: what is summed is determined by them.
use Rattle.std.proofs.Common.{◌≡◌, ◌∙◌, refl, sym, ap, subst, ℕ, zero, suc, ◌+◌, ◌-◌, ◌*◌, ◌^◌, ◌<◌, ◌≤◌, ℤ, pos, ◌<ℤ◌, unsigned_abs, Some, None, List, [], ◌∷◌, ◌++◌, map, length, drop, slice_get, arith}
use Rattle.std.proofs.lemmas.Int.{ints}
use Rattle.std.proofs.lemmas.List.{drop_all}
use Rattle.std.proofs.lemmas.Option.{none-some, same_Some}
use Rattle.il_core.specs.declared.line.Place.{Place}
use Rattle.il_core.specs.declared.certificate.Share.{Share}
use Rattle.sym_simplify.specs.Form.{Form, constant, part}
use Rattle.sym_simplify.specs.Norm.{Summand, scaled, normal_of}
use Rattle.sym_simplify.specs.Literal.{LiteralForm}
use Rattle.sym_simplify.specs.Normal.{constant_of}
use Rattle.sym_simplify.specs.Merge.{merge, scale_parts, scale}
use Rattle.sym_simplify.proofs.Merges.{normal_append, normal_scaled}
use Rattle.sym_simplify.proofs.OpenParts.{drop_first, scale_other}
use Rattle.threat_certs.specs.declared.adding.Counted.{Counted}
use Rattle.cert_rules.specs.Acceptance.{IsSumOf, IsNegativeSum}
use Rattle.threat_certs.specs.Adding.{counted_before, AreNumbersWithin}
use Rattle.threat_certs.specs.Measuring.{IsNormalOf, IsShareOf}
use Rattle.cert_rules.specs.Quantity.{IsQuantity}
use Rattle.threat_certs.proofs.Numbers.{within_more, merge_within, scale_within}
use Rattle.threat_certs.proofs.Single.{one-quantity}

-- a multiple by a factor above 0
scale-above : (t : ℕ) (n : Form) → 1 ≤ t → scale (pos t) n ≡ scale_parts (pos t) n
scale-above zero n h = absurd (omega arith)
scale-above (suc t) n h = scale_other (pos (suc t)) n (λ e. absurd (omega (arith, ints)))

none-before : (ps : List Counted) (c : ℤ) → length ps ≤ 0 → counted_before ps (constant c) ≡ constant c
none-before [] c l = refl
none-before (p ∷ ps) c l = absurd (omega arith)

alone-is : (ps : List Counted) (c left : ℤ) → counted_before ps (constant c) ≡ constant left → left <ℤ pos 0 → (length ps ≤ 0) × (c <ℤ pos 0)
alone-is [] c left e h = let f : c ≡ left = cc in (omega arith, subst (λ x. x <ℤ pos 0) (sym f) h)
alone-is (p ∷ ps) c left e h = absurd cc

module _ (places : List Place) (pc : ℕ) (fs : List LiteralForm) where
  -- the shares from a position on are summed
  pub record Summing (shares : List Share) (left : ℕ) (n : Form) : Type 0 where
    pub within : left ≤ length shares
    pub sum : IsNormalOf (2 ^ 117 * (length shares - left)) (IsSumOf places pc fs (drop left shares)) n

  one-sum : (shares : List Share) (q r : List Summand) → IsSumOf places pc fs shares q → IsSumOf places pc fs shares r → q ≡ r
  one-sum [] q r h k = h ∙ sym k
  one-sum (share ∷ shares) q r (l, u, (here, others, i, more, told)) (m, v, (here2, others2, j, more2, told2)) =
      told ∙ (ap (λ x. map (scaled (pos share.times)) x ++ others) (one-quantity places pc fs share.item here here2 i j)
      ∙ (ap (λ x. map (scaled (pos share.times)) here2 ++ x) (one-sum shares others others2 more more2) ∙ sym told2))

  pub sum_start : (shares : List Share) (n : Form) → n ≡ constant (pos 0) → Summing shares (length shares) n
  sum_start shares n e = record {
    within = omega arith;
    sum = subst (λ xs. IsNormalOf (2 ^ 117 * (length shares - length shares)) (IsSumOf places pc fs xs) n) (sym (drop_all (length shares) shares (omega arith))) (record {
      summands = [];
      are = refl;
      form = e;
      small = subst (λ m. AreNumbersWithin (2 ^ 117 * (length shares - length shares)) m) (sym e) (omega arith);
    });
  }

  -- one share more in front
  joined : (j k : ℕ) (share : Share) (shares : List Share) (m n : Form) → IsNormalOf j (IsShareOf places pc fs share) m → IsNormalOf k (IsSumOf places pc fs shares) n
      → IsNormalOf (j + k) (IsSumOf places pc fs (share ∷ shares)) (merge m n)
  joined j k share shares m n h l = record {
    summands = h.summands ++ l.summands;
    are = (h.are.0, h.are.1, (h.are.2.0, l.summands, h.are.2.1, l.are, ap (λ x. x ++ l.summands) h.are.2.2));
    form = ap (λ x. merge x n) h.form ∙ (ap (merge (normal_of h.summands)) l.form ∙ sym (normal_append h.summands l.summands));
    small = merge_within j k m n h.small l.small;
  }

  pub sum_step : (shares : List Share) (left : ℕ) (share : Share) (m n next : Form) → 0 < left → slice_get shares (left - 1) ≡ Some share
      → IsNormalOf (2 ^ 117) (IsShareOf places pc fs share) m → next ≡ merge m n → Summing shares left n → Summing shares (left - 1) next
  sum_step shares left share m n next h e i f s =
      let back : (left - 1) + 1 ≡ left = omega arith in
      let first : drop (left - 1) shares ≡ share ∷ drop left shares = drop_first shares (left - 1) share e ∙ ap (λ k. share ∷ drop k shares) back in
      let count : 2 ^ 117 + 2 ^ 117 * (length shares - left) ≡ 2 ^ 117 * (length shares - (left - 1)) = (let w = s.within in omega arith) in
      record {
        within = omega (arith, s.within);
        sum = subst (λ xs. IsNormalOf (2 ^ 117 * (length shares - (left - 1))) (IsSumOf places pc fs xs) next) (sym first)
            (subst (λ x. IsNormalOf (2 ^ 117 * (length shares - (left - 1))) (IsSumOf places pc fs (share ∷ drop left shares)) x) (sym f)
            (subst (λ k. IsNormalOf k (IsSumOf places pc fs (share ∷ drop left shares)) (merge m n)) count
            (joined (2 ^ 117) (2 ^ 117 * (length shares - left)) share (drop left shares) m n i s.sum)));
      }

  pub sum_small : (shares : List Share) (left : ℕ) (n : Form) → length shares ≤ 128 → Summing shares left n → AreNumbersWithin (2 ^ 125) n
  sum_small shares left n h s = within_more (2 ^ 117 * (length shares - left)) (2 ^ 125) n (omega arith) s.sum.small

  pub sum_end : (shares : List Share) (left : ℕ) (n : Form) → length shares ≤ 128 → left ≤ 0 → Summing shares left n → IsNormalOf (2 ^ 125) (IsSumOf places pc fs shares) n
  sum_end shares left n h l s = record {
    summands = s.sum.summands;
    are = subst (λ k. IsSumOf places pc fs (drop k shares) s.sum.summands) (let z : left ≡ 0 = omega arith in z) s.sum.are;
    form = s.sum.form;
    small = sum_small shares left n h s;
  }

  -- a share without a quantity leaves no sum
  pub no_sum : (shares : List Share) (i : ℕ) (share : Share) → slice_get shares i ≡ Some share → ((q : List Summand) → IsShareOf places pc fs share q → ⊥)
      → (q : List Summand) → IsSumOf places pc fs shares q → ⊥
  no_sum [] i share e h q s = none-some share e
  no_sum (first ∷ shares) zero share e h q (l, u, (here, others, i, more, told)) =
      let f = same_Some first share e in
      h (map (scaled (pos share.times)) here) (subst (λ (x : Share). IsShareOf places pc fs x (map (scaled (pos x.times)) here)) f (l, u, (here, i, refl)))
  no_sum (first ∷ shares) (suc i) share e h q (l, u, (here, others, j, more, told)) = no_sum shares i share e h others more

  -- the quantity of an item as often as a factor says
  pub share_measured : (share : Share) (m n : Form) → 1 ≤ share.times → share.times ≤ 65536 → n ≡ scale_parts (pos share.times) m
      → IsNormalOf (2 ^ 101) (IsQuantity places pc fs share.item) m → IsNormalOf (2 ^ 117) (IsShareOf places pc fs share) n
  share_measured share m n l u e h = record {
    summands = map (scaled (pos share.times)) h.summands;
    are = (l, u, (h.summands, h.are, refl));
    form = e ∙ (ap (scale_parts (pos share.times)) h.form ∙ (sym (scale-above share.times (normal_of h.summands) l) ∙ sym (normal_scaled (pos share.times) h.summands)));
    small = subst (λ x. AreNumbersWithin (2 ^ 117) x) (sym e) (scale_within (2 ^ 16) (2 ^ 101) (pos share.times) m u h.small);
  }

  -- no shares come to 0
  some-shares : (shares : List Share) (ps : List Counted) (c : ℤ) (q : List Summand) → IsSumOf places pc fs shares q → counted_before ps (constant c) ≡ normal_of q → c <ℤ pos 0 → length ps ≤ 0 → 1 ≤ length shares
  some-shares [] ps c q h e n l =
      let f : constant c ≡ constant (pos 0) = sym (none-before ps c l) ∙ (e ∙ ap normal_of h) in
      let g : c ≡ pos 0 = ap constant_of f in
      absurd (omega (arith, ints))
  some-shares (share ∷ shares) ps c q h e n l = omega arith

  pub negative : (shares : List Share) (ps : List Counted) (c : ℤ) → length shares ≤ 128 → IsNormalOf (2 ^ 125) (IsSumOf places pc fs shares) (counted_before ps (constant c))
      → length ps ≤ 0 → c <ℤ pos 0 → IsNegativeSum places pc fs shares
  negative shares ps c f h l n = record {
    some = some-shares shares ps c h.summands h.are h.form n l;
    few = f;
    summed = h.summands;
    sum = h.are;
    left = c;
    alone = sym h.form ∙ none-before ps c l;
    negative = n;
  }

  pub not_negative : (shares : List Share) (ps : List Counted) (c : ℤ) → IsNormalOf (2 ^ 125) (IsSumOf places pc fs shares) (counted_before ps (constant c)) → IsNegativeSum places pc fs shares
      → (length ps ≤ 0) × (c <ℤ pos 0)
  not_negative shares ps c h n =
      let e : counted_before ps (constant c) ≡ constant n.left = h.form ∙ (ap normal_of (one-sum shares h.summands n.summed h.are n.sum) ∙ n.alone) in
      alone-is ps c n.left e n.negative
