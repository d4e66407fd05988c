-- The order of normal terms and of atoms passes on from the first to the third through the second.
use Rattle.std.proofs.Common.{◌≡◌, refl, sym, ap, ℕ, ℤ, arith}
use Rattle.std.specs.Ordering.{nat_cmp, int_cmp, ordering_then}
use Rattle.std.specs.declared.cmp.Ordering.{Ordering}
use Rattle.std.specs.declared.cmp.Ordering.TheVariants.{Less, Equal, Greater}
use Rattle.std.proofs.lemmas.Bool.Decides.{nat_tests}
use Rattle.std.proofs.lemmas.Int.{ints}
use Rattle.sym_simplify.specs.Form.{Form, constant, part, Factor, place, pair}
use Rattle.sym_simplify.specs.Order.{rank, form_cmp, factor_cmp}
use Rattle.sym_simplify.proofs.Ordered.{equal-numbers, equal-integers}

-- how the first compares to the third (q), from how the first compares to the second (o) and that to the third (p)
pub record Chain (o p q : Ordering) : Type 0 where
  pub less : o ≡ Less → p ≡ Less → q ≡ Less
  pub left : o ≡ Equal → q ≡ p
  pub right : p ≡ Equal → q ≡ o

into-less : (o : Ordering) → Chain o Less Less
into-less o = record { less = λ h k. refl; left = λ h. refl; right = λ h. let e : ⊥ = cc in absurd e }

into-greater : (o : Ordering) → Chain o Greater Greater
into-greater o = record { less = λ h k. let e : ⊥ = cc in absurd e; left = λ h. refl; right = λ h. let e : ⊥ = cc in absurd e }

from-less : (p : Ordering) → Chain Less p Less
from-less p = record { less = λ h k. refl; left = λ h. let e : ⊥ = cc in absurd e; right = λ h. refl }

from-greater : (p : Ordering) → Chain Greater p Greater
from-greater p = record { less = λ h k. let e : ⊥ = cc in absurd e; left = λ h. let e : ⊥ = cc in absurd e; right = λ h. refl }

up-down : (q : Ordering) → Chain Less Greater q
up-down q = record { less = λ h k. let e : ⊥ = cc in absurd e; left = λ h. let e : ⊥ = cc in absurd e; right = λ h. let e : ⊥ = cc in absurd e }

down-up : (q : Ordering) → Chain Greater Less q
down-up q = record { less = λ h k. let e : ⊥ = cc in absurd e; left = λ h. let e : ⊥ = cc in absurd e; right = λ h. let e : ⊥ = cc in absurd e }

-- comparisons in two steps make a chain step by step
chain-then : (o p q v w x : Ordering) → Chain o p q → Chain v w x → Chain (ordering_then o v) (ordering_then p w) (ordering_then q x)
chain-then Less Less q v w x h k = rw (h.less refl refl) (from-less Less)
chain-then Less Equal q v w x h k = rw (h.right refl) (from-less w)
chain-then Less Greater q v w x h k = up-down (ordering_then q x)
chain-then Equal Less q v w x h k = rw (h.left refl) (into-less v)
chain-then Equal Equal q v w x h k = rw (h.left refl) k
chain-then Equal Greater q v w x h k = rw (h.left refl) (into-greater v)
chain-then Greater Less q v w x h k = down-up (ordering_then q x)
chain-then Greater Equal q v w x h k = rw (h.right refl) (from-greater w)
chain-then Greater Greater q v w x h k = record { less = λ i j. let e : ⊥ = cc in absurd e; left = λ i. let e : ⊥ = cc in absurd e; right = λ i. let e : ⊥ = cc in absurd e }

less-numbers : (a b c : ℕ) → nat_cmp a b ≡ Less → nat_cmp b c ≡ Less → nat_cmp a c ≡ Less
less-numbers a b c h k = grind (arith, nat_tests)

less-integers : (a b c : ℤ) → int_cmp a b ≡ Less → int_cmp b c ≡ Less → int_cmp a c ≡ Less
less-integers a b c h k = grind (arith, ints)

number-chain : (a b c : ℕ) → Chain (nat_cmp a b) (nat_cmp b c) (nat_cmp a c)
number-chain a b c = record {
  less = less-numbers a b c;
  left = λ h. ap (λ v. nat_cmp v c) (equal-numbers a b h);
  right = λ h. ap (nat_cmp a) (sym (equal-numbers b c h));
}

integer-chain : (a b c : ℤ) → Chain (int_cmp a b) (int_cmp b c) (int_cmp a c)
integer-chain a b c = record {
  less = less-integers a b c;
  left = λ h. ap (λ v. int_cmp v c) (equal-integers a b h);
  right = λ h. ap (int_cmp a) (sym (equal-integers b c h));
}

mutual
  pub form_chain : (l m n : Form) → Chain (form_cmp l m) (form_cmp m n) (form_cmp l n)
  form_chain (constant c) (constant d) (constant e) = integer-chain c d e
  form_chain (constant c) (constant d) (part e z n) = into-less (int_cmp c d)
  form_chain (constant c) (part d b m) (constant e) = up-down (int_cmp c e)
  form_chain (constant c) (part d b m) (part e z n) = from-less (form_cmp (part d b m) (part e z n))
  form_chain (part c a l) (constant d) (constant e) = from-greater (int_cmp d e)
  form_chain (part c a l) (constant d) (part e z n) = down-up (form_cmp (part c a l) (part e z n))
  form_chain (part c a l) (part d b m) (constant e) = into-greater (form_cmp (part c a l) (part d b m))
  form_chain (part c a l) (part d b m) (part e z n) =
      chain-then (factor_cmp a b) (factor_cmp b z) (factor_cmp a z) _ _ _ (factor_chain a b z)
      (chain-then (int_cmp c d) (int_cmp d e) (int_cmp c e) _ _ _ (integer-chain c d e) (form_chain l m n))

  pub factor_chain : (a b c : Factor) → Chain (factor_cmp a b) (factor_cmp b c) (factor_cmp a c)
  factor_chain (place p) (place q) (place r) = number-chain p q r
  factor_chain (place p) (place q) (pair k m n) = into-less (nat_cmp p q)
  factor_chain (place p) (pair k m n) (place r) = up-down (nat_cmp p r)
  factor_chain (place p) (pair k m n) (pair l u v) = from-less (factor_cmp (pair k m n) (pair l u v))
  factor_chain (pair j s t) (place q) (place r) = from-greater (nat_cmp q r)
  factor_chain (pair j s t) (place q) (pair k m n) = down-up (factor_cmp (pair j s t) (pair k m n))
  factor_chain (pair j s t) (pair k m n) (place r) = into-greater (factor_cmp (pair j s t) (pair k m n))
  factor_chain (pair j s t) (pair k m n) (pair l u v) =
      chain-then (nat_cmp (rank j) (rank k)) (nat_cmp (rank k) (rank l)) (nat_cmp (rank j) (rank l)) _ _ _ (number-chain (rank j) (rank k) (rank l))
      (chain-then (form_cmp s m) (form_cmp m u) (form_cmp s u) _ _ _ (form_chain s m u) (form_chain t n v))

-- what is below an atom that is below a third is below the third
pub factor_less : (a b c : Factor) → factor_cmp a b ≡ Less → factor_cmp b c ≡ Less → factor_cmp a c ≡ Less
factor_less a b c h k = (factor_chain a b c).less h k
