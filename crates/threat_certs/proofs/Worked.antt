-- What the worked certificates owe.
use Rattle.std.proofs.Common.{◌≡◌, ◌∙◌, inl, inr, refl, sym, ap, ℕ, zero, suc, ◌*◌, ◌≤◌, ℤ, pos, negsuc, ◌*ℤ◌, Bool, true, false, [], ◌∷◌, List, Option, Some, None, map, ◌++◌, ◌<ℤ◌, neg_ℤ, slice_get, arith}
use Rattle.std.proofs.Math.Nat.{le-mul_of_pos_right}
use Rattle.std.proofs.lemmas.Int.{ints}
use Rattle.std.specs.Int.{int_div_euclid}
use Rattle.std.proofs.lemmas.Option.{same_Some, none-some}
use Rattle.il_core.specs.LineGraph.{IsIn}
use Rattle.il_core.specs.declared.operator.Relation.TheVariants.{Ne, Lt, Le, Gt, Ge}
use Rattle.sym_simplify.specs.Form.{times, Form, constant, part, place, pair}
use Rattle.sym_simplify.specs.Merge.{scale_parts}
use Rattle.sym_simplify.specs.Norm.{Summand, alone, scaled, normal_of}
use Rattle.il_core.specs.declared.operator.Relation.{Relation}
use Rattle.il_core.specs.declared.certificate.Item.{Item}
use Rattle.sym_simplify.specs.Literal.{LiteralForm, always, never, keep, form_holds}
use Rattle.sym_simplify.specs.Easy.{is_other_than}
use Rattle.path_inputs.specs.Least.{Meets}
use Rattle.il_core.specs.declared.certificate.Item.TheVariants.{Up, Down, Never}
use Rattle.il_core.specs.Certificate.{Certificate, sum, split}
use Rattle.cert_rules.specs.Quantity.{highest, lowest, IsReduced, times_and, IsQuantity}
use Rattle.cert_rules.specs.Acceptance.{IsSumOf, IsNegativeSum, IsAccepted}
use Rattle.threat_certs.specs.WorkedCertificates.{both, x, y, products, twice_apart, odd, zero_alone, other_than_zero}
use Rattle.threat_certs.proofs.Accepted.{accepted-unmet}

abbrev first : Form → ℤ
first (constant c) = pos 0
first (part c a n) = c

factor-small : (d : ℕ) (c : ℤ) (n : ℕ) → pos d *ℤ c ≡ pos (suc n) → d ≤ suc n
factor-small d (pos zero) n e = grind (arith, ints)
factor-small d (pos (suc k)) n e = let f : d * suc k ≡ suc n = grind (arith, ints) in omega (arith, le-mul_of_pos_right {m = suc k} d (omega arith))
factor-small zero (negsuc k) n e = omega arith
factor-small (suc d) (negsuc k) n e = grind (arith, ints)

-- no factor of a term is above its first coefficient
factor-least : (n : Form) (k d : ℕ) (other : Form) → first n ≡ pos (suc k) → scale_parts (pos d) other ≡ n → d ≤ suc k
factor-least n k d (constant c) e f = let g : pos 0 ≡ pos (suc k) = ap first f ∙ e in absurd (omega (arith, ints))
factor-least n k d (part c a m) e f = factor-small d c k (ap first f ∙ e)

reduced : (n : Form) (k : ℕ) (m : Form) → first n ≡ pos (suc k) → scale_parts (pos (suc k)) m ≡ n → IsReduced n (suc k) m
reduced n k m e f = record { multiple = f; greatest = λ d other g. factor-least n k d other e g }

module _ (fs : List LiteralForm) (i : ℕ) (n : Form) (r : Relation) (b : ℤ) (g : ℕ) (m : Form) (there : slice_get fs i ≡ Some (keep n r b)) (divided : IsReduced n g m) where
  up : (most : ℤ) → highest r b ≡ Some most → IsQuantity [] 1 fs (Up i) (times_and (negsuc 0) m (int_div_euclid most (pos g)))
  up most e = (keep n r b, there, record { parts = n; relation = r; bound = b; kept = refl; most = most; allowed = e; factor = g; reduced = m; divided = divided; quantity = refl })

  down : (fewest : ℤ) → lowest r b ≡ Some fewest → IsQuantity [] 1 fs (Down i) (times_and (pos 1) m (int_div_euclid (neg_ℤ fewest) (pos g)))
  down fewest e = (keep n r b, there, record { parts = n; relation = r; bound = b; kept = refl; fewest = fewest; allowed = e; factor = g; reduced = m; divided = divided; quantity = refl })

two-shares : (fs : List LiteralForm) (i j : Item) (q r : List Summand) (c : ℤ) → IsQuantity [] 1 fs i q → IsQuantity [] 1 fs j r
    → normal_of (map (scaled (pos 1)) q ++ (map (scaled (pos 1)) r ++ [])) ≡ constant c → c <ℤ pos 0
    → IsNegativeSum [] 1 fs (record { item = i; times = 1 } ∷ record { item = j; times = 1 } ∷ [])
two-shares fs i j q r c h k e l = record {
  some = omega arith;
  few = omega arith;
  summed = map (scaled (pos 1)) q ++ (map (scaled (pos 1)) r ++ []);
  sum = (omega arith, omega arith, (q, map (scaled (pos 1)) r ++ [], h, (omega arith, omega arith, (r, [], k, refl, refl)), refl));
  left = c;
  alone = e;
  negative = l;
}

abbrev product : Form
product = part (pos 1) (pair times x y) (constant (pos 0))

product-reduced : IsReduced product 1 product
product-reduced = reduced product 0 product refl refl

x-reduced : IsReduced x 1 x
x-reduced = reduced x 0 x refl refl

abbrev apart : Form
apart = part (pos 1) (place 0) (part (negsuc 0) (place 1) (constant (pos 0)))

apart-reduced : IsReduced twice_apart 2 apart
apart-reduced = reduced twice_apart 1 apart refl refl

pub product-accepted : IsAccepted [] 1 products (both (Up 0) (Down 1))
product-accepted = record {
  nested = omega arith;
  refutes = two-shares products (Up 0) (Down 1) _ _ (negsuc 0) (up products 0 product Lt (pos 3) 1 product refl product-reduced (pos 2) refl)
      (down products 1 product Ge (pos 3) 1 product refl product-reduced (pos 3) refl) refl (omega (arith, ints));
}

pub odd-accepted : IsAccepted [] 1 odd (both (Up 0) (Down 1))
odd-accepted = record {
  nested = omega arith;
  refutes = two-shares odd (Up 0) (Down 1) _ _ (negsuc 0) (up odd 0 twice_apart Le (pos 1) 2 apart refl apart-reduced (pos 1) refl)
      (down odd 1 twice_apart Ge (pos 1) 2 apart refl apart-reduced (pos 1) refl) refl (omega (arith, ints));
}

abbrev below : List LiteralForm
below = keep x Lt (pos 0) ∷ zero_alone

abbrev above : List LiteralForm
above = keep x Gt (pos 0) ∷ zero_alone

pub split-accepted : IsAccepted [] 1 other_than_zero (split 0 (both (Up 0) (Down 2)) (both (Down 0) (Up 1)))
split-accepted = record {
  nested = omega arith;
  refutes = (
    x,
    pos 0,
    refl,
    two-shares below (Up 0) (Down 2) _ _ (negsuc 0) (up below 0 x Lt (pos 0) 1 x refl x-reduced (negsuc 0) refl) (down below 2 x Ge (pos 0) 1 x refl x-reduced (pos 0) refl) refl (omega (arith, ints)),
    two-shares above (Down 0) (Up 1) _ _ (negsuc 0) (down above 0 x Gt (pos 0) 1 x refl x-reduced (pos 1) refl) (up above 1 x Le (pos 0) 1 x refl x-reduced (pos 0) refl) refl (omega (arith, ints)),
  );
}

pub never-accepted : IsAccepted [] 1 (never ∷ []) (sum (record { item = Never 0; times = 1 } ∷ []))
never-accepted = record {
  nested = omega arith;
  refutes = record {
    some = omega arith;
    few = omega arith;
    summed = map (scaled (pos 1)) (alone (negsuc 0) ∷ []) ++ [];
    sum = (omega arith, omega arith, (alone (negsuc 0) ∷ [], [], (refl, refl), refl, refl));
    left = negsuc 0;
    alone = refl;
    negative = omega (arith, ints);
  };
}

abbrev highest_of : LiteralForm → Option ℤ
highest_of always = None
highest_of never = None
highest_of (keep n r b) = highest r b

pub wrong-refused : IsAccepted [] 1 products (both (Up 0) (Up 1)) → ⊥
wrong-refused a = by_sum a.refutes.sum
  where
    by_sum : IsSumOf [] 1 products (record { item = Up 0; times = 1 } ∷ record { item = Up 1; times = 1 } ∷ []) a.refutes.summed → ⊥
    by_sum (l, h, (here, others, q, (l2, h2, (here2, others2, (f, there, u), more, e2)), e)) =
        let k : None ≡ Some u.most = ap highest_of (same_Some (keep product Ge (pos 3)) f there) ∙ (ap highest_of u.kept ∙ u.allowed) in
        none-some u.most k

zero-met : Meets [] 1 zero_alone []
zero-met = record { input = record { size = refl; least = λ k p e. absurd (none-some p e); greatest = λ k p e. absurd (none-some p e) }; each = holds }
  where
    holds : (f : LiteralForm) → IsIn zero_alone f → form_holds f [] ≡ true
    holds f (inl e) = ap (λ g. form_holds g []) (sym e)
    holds f (inr (inl e)) = ap (λ g. form_holds g []) (sym e)
    holds f (inr (inr e)) = absurd e

pub zero-refused : IsAccepted [] 1 zero_alone (both (Up 0) (Down 1)) → ⊥
zero-refused a = accepted-unmet [] 1 zero_alone (both (Up 0) (Down 1)) a [] zero-met

abbrev is_unequal_to : LiteralForm → Bool
is_unequal_to always = false
is_unequal_to never = false
is_unequal_to (keep n r b) = is_other_than r

pub split-refused : (low high : Certificate) → IsAccepted [] 1 other_than_zero (split 1 low high) → ⊥
split-refused low high a = let e : false ≡ true = ap is_unequal_to (same_Some (keep x Le (pos 0)) (keep a.refutes.0 Ne a.refutes.1) a.refutes.2) in absurd cc

pub no-share_refused : IsAccepted [] 1 (never ∷ []) (sum []) → ⊥
no-share_refused a = let l = a.refutes.some in absurd (omega arith)
