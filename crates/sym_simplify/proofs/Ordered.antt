-- The order of normal terms and of atoms tells equal ones, and turns round with its sides.
use Rattle.std.proofs.Common.{◌≡◌, ◌∙◌, refl, sym, ap, ℕ, ℤ}
use Rattle.std.specs.Ordering.{nat_cmp, int_cmp, ordering_then, ordering_reverse}
use Rattle.std.specs.declared.cmp.Ordering.{Ordering}
use Rattle.std.specs.declared.cmp.Ordering.TheVariants.{Less, Equal, Greater}
use Rattle.std.proofs.lemmas.Cmp.{nat_cmp_total, int_cmp_total, tied_itself}
use Rattle.std.proofs.Common.{arith}
use Rattle.std.proofs.lemmas.Bool.Decides.{nat_tests}
use Rattle.std.proofs.lemmas.Int.{ints}
use Rattle.sym_simplify.specs.Form.{Kind, times, over, rest, Form, constant, part, Factor, place, pair}
use Rattle.sym_simplify.specs.Order.{rank, form_cmp, factor_cmp}

-- two steps of which neither decides are both equal
both-equal : (o p : Ordering) → ordering_then o p ≡ Equal → (o ≡ Equal) × (p ≡ Equal)
both-equal Less p h = let e : ⊥ = cc in absurd e
both-equal Equal p h = (refl, h)
both-equal Greater p h = let e : ⊥ = cc in absurd e

-- a comparison in two steps turns round step by step
reverse-then : (o p : Ordering) → ordering_reverse (ordering_then o p) ≡ ordering_then (ordering_reverse o) (ordering_reverse p)
reverse-then Less p = refl
reverse-then Equal p = refl
reverse-then Greater p = refl

pub equal-numbers : (p q : ℕ) → nat_cmp p q ≡ Equal → p ≡ q
equal-numbers p q h = grind (arith, nat_tests)

pub equal-integers : (c d : ℤ) → int_cmp c d ≡ Equal → c ≡ d
equal-integers c d h = grind (arith, ints)

-- kinds of one rank are one kind
equal-kinds : (k l : Kind) → nat_cmp (rank k) (rank l) ≡ Equal → k ≡ l
equal-kinds times times h = refl
equal-kinds times over h = let e : ⊥ = cc in absurd e
equal-kinds times rest h = let e : ⊥ = cc in absurd e
equal-kinds over times h = let e : ⊥ = cc in absurd e
equal-kinds over over h = refl
equal-kinds over rest h = let e : ⊥ = cc in absurd e
equal-kinds rest times h = let e : ⊥ = cc in absurd e
equal-kinds rest over h = let e : ⊥ = cc in absurd e
equal-kinds rest rest h = refl

-- what compares as equal is equal
mutual
  pub form_equal : (m n : Form) → form_cmp m n ≡ Equal → m ≡ n
  form_equal (constant c) (constant d) h = ap constant (equal-integers c d h)
  form_equal (constant c) (part d b n) h = let e : ⊥ = cc in absurd e
  form_equal (part c a m) (constant d) h = let e : ⊥ = cc in absurd e
  form_equal (part c a m) (part d b n) h =
      let p = both-equal (factor_cmp a b) (ordering_then (int_cmp c d) (form_cmp m n)) h in
      let q = both-equal (int_cmp c d) (form_cmp m n) p.1 in
      let x : a ≡ b = factor_equal a b p.0 in
      let y : c ≡ d = equal-integers c d q.0 in
      let z : m ≡ n = form_equal m n q.1 in
      cc

  pub factor_equal : (a b : Factor) → factor_cmp a b ≡ Equal → a ≡ b
  factor_equal (place p) (place q) h = ap place (equal-numbers p q h)
  factor_equal (place p) (pair l j n) h = let e : ⊥ = cc in absurd e
  factor_equal (pair k i m) (place q) h = let e : ⊥ = cc in absurd e
  factor_equal (pair k i m) (pair l j n) h =
      let p = both-equal (nat_cmp (rank k) (rank l)) (ordering_then (form_cmp i j) (form_cmp m n)) h in
      let q = both-equal (form_cmp i j) (form_cmp m n) p.1 in
      let x : k ≡ l = equal-kinds k l p.0 in
      let y : i ≡ j = form_equal i j q.0 in
      let z : m ≡ n = form_equal m n q.1 in
      cc

-- each compares as equal to itself
mutual
  pub form_self : (n : Form) → form_cmp n n ≡ Equal
  form_self (constant c) = tied_itself int_cmp_total c
  form_self (part c a n) = rw (factor_self a, tied_itself int_cmp_total c) (form_self n)

  pub factor_self : (a : Factor) → factor_cmp a a ≡ Equal
  factor_self (place p) = tied_itself nat_cmp_total p
  factor_self (pair k m n) = rw (tied_itself nat_cmp_total (rank k), form_self m) (form_self n)

-- sides that change places turn the order round
mutual
  pub form_flip : (m n : Form) → form_cmp m n ≡ ordering_reverse (form_cmp n m)
  form_flip (constant c) (constant d) = int_cmp_total.antisymm c d
  form_flip (constant c) (part d b n) = refl
  form_flip (part c a m) (constant d) = refl
  form_flip (part c a m) (part d b n) =
      rw (factor_flip a b, int_cmp_total.antisymm c d, form_flip m n)
      (sym (reverse-then (factor_cmp b a) (ordering_then (int_cmp d c) (form_cmp n m)) ∙ ap (ordering_then (ordering_reverse (factor_cmp b a))) (reverse-then (int_cmp d c) (form_cmp n m))))

  pub factor_flip : (a b : Factor) → factor_cmp a b ≡ ordering_reverse (factor_cmp b a)
  factor_flip (place p) (place q) = nat_cmp_total.antisymm p q
  factor_flip (place p) (pair l j n) = refl
  factor_flip (pair k i m) (place q) = refl
  factor_flip (pair k i m) (pair l j n) =
      rw (nat_cmp_total.antisymm (rank k) (rank l), form_flip i j, form_flip m n)
      (sym (reverse-then (nat_cmp (rank l) (rank k)) (ordering_then (form_cmp j i) (form_cmp n m)) ∙ ap (ordering_then (ordering_reverse (nat_cmp (rank l) (rank k)))) (reverse-then (form_cmp j i) (form_cmp n m))))
