-- The capped measure of a substituted term follows from the capped measures of its places.
use Rattle.std.proofs.Common.{◌≡◌, ◌∙◌, refl, sym, subst, ℕ, zero, suc, pos, ◌+◌, ◌*◌, ◌<◌, ◌≤◌, inl, inr, List, map, min, max, length, arith}
use Rattle.std.proofs.Math.Nat.{mul-le-mul_left, mul_comm}
use Rattle.std.proofs.lemmas.Bool.{cases_lt}
use Rattle.std.proofs.lemmas.List.{get_or-map, length-map}
use Rattle.sym_terms.specs.declared.measuring.TermMeasure.{TermMeasure}
use Rattle.sym_terms.specs.Tree.{Tree, number, variable, sum, product, quotient, remainder}
use Rattle.sym_terms.specs.Substitution.{substituted, HasPlacesBelow}
use Rattle.sym_terms.specs.Measure.{nodes, weight, depth, measured, measure_of, number_measure, sum_measure, product_measure}

-- a sum of capped numbers, capped, is the sum, capped
capped-sum : (a b c : ℕ) → min (min a c + min b c) c ≡ min (a + b) c
capped-sum a b c = omega arith

capped-nodes : (a b c : ℕ) → min (1 + min a c + min b c) c ≡ min (1 + a + b) c
capped-nodes a b c = omega arith

capped-depth : (a b c : ℕ) → min (1 + max (min a c) (min b c)) c ≡ min (1 + max a b) c
capped-depth a b c = omega arith

-- a number that reaches the cap is the cap, capped
reached : (x c : ℕ) → c ≤ x → min x c ≡ c
reached x c h = omega arith

-- a factor that reaches the cap makes the product reach it
product-reaches : (a b c : ℕ) → c ≤ a → 1 ≤ b → c ≤ a * b
product-reaches a b c h k = let l : a * 1 ≤ a * b = mul-le-mul_left {m = 1} {n = b} a k in omega (arith, l)

-- a product of capped numbers, capped, is the product, capped, where the first factor reaches the cap
capped-large : (a b c : ℕ) → c ≤ a → min (min a c * min b c) c ≡ min (a * b) c
capped-large a zero c h = let e : min zero c ≡ 0 = omega arith in rw e (omega arith)
capped-large a (suc b) zero h = omega arith
capped-large a (suc b) (suc c) h =
    let k : suc c ≤ min a (suc c) * min (suc b) (suc c) = product-reaches (min a (suc c)) (min (suc b) (suc c)) (suc c) (omega arith) (omega arith) in
    let l : suc c ≤ a * suc b = product-reaches a (suc b) (suc c) h (omega arith) in
    reached _ (suc c) k ∙ sym (reached _ (suc c) l)

-- where both stay below it
capped-small : (a b c : ℕ) → a < c → b < c → min (min a c * min b c) c ≡ min (a * b) c
capped-small a b c h k =
    let e : min a c ≡ a = omega arith in
    let f : min b c ≡ b = omega arith in
    rw (e, f) refl

-- and in all cases
capped-product : (a b c : ℕ) → min (min a c * min b c) c ≡ min (a * b) c
capped-product a b c =
    elim (cases_lt a c) [
      | inl h ↦ elim (cases_lt b c) [ inl k ↦ capped-small a b c h k | inr k ↦ rw (mul_comm (min a c) (min b c), mul_comm a b) (capped-large b a c k) ]
      | inr h ↦ capped-large a b c h
    ]

-- the measure of a sum, a quotient or a remainder from those of its sides
sum-measured : (x y : Tree) → sum_measure (measured x) (measured y) ≡ measured (sum x y)
sum-measured x y = rw (capped-nodes (nodes x) (nodes y) 2097153, capped-sum (weight x) (weight y) 1267650600228229401496703205376, capped-depth (depth x) (depth y) 1001) refl

-- the measure of a product from those of its sides
product-measured : (x y : Tree) → product_measure (measured x) (measured y) ≡ measured (product x y)
product-measured x y = rw (capped-nodes (nodes x) (nodes y) 2097153, capped-product (weight x) (weight y) 1267650600228229401496703205376, capped-depth (depth x) (depth y) 1001) refl

-- the measure over the places' measures is the measure of the substituted term
measured-substituted : (terms : List Tree) (t : Tree) → HasPlacesBelow (length terms) t → measure_of (map measured terms) t ≡ measured (substituted terms t)
measured-substituted terms (number n) h = refl
measured-substituted terms (variable p) h = get_or-map measured terms p (number (pos 0)) (number_measure (pos 0)) h
measured-substituted terms (sum a b) h = rw (measured-substituted terms a h.0, measured-substituted terms b h.1) (sum-measured (substituted terms a) (substituted terms b))
measured-substituted terms (product a b) h = rw (measured-substituted terms a h.0, measured-substituted terms b h.1) (product-measured (substituted terms a) (substituted terms b))
measured-substituted terms (quotient a b) h = rw (measured-substituted terms a h.0, measured-substituted terms b h.1) (sum-measured (substituted terms a) (substituted terms b))
measured-substituted terms (remainder a b) h = rw (measured-substituted terms a h.0, measured-substituted terms b h.1) (sum-measured (substituted terms a) (substituted terms b))

-- what is the measure over the environment is the measure of the substituted term, for all terms that the environment measures
pub measured_by : (m : TermMeasure) (env : List TermMeasure) (t : Tree) → HasPlacesBelow (length env) t → m ≡ measure_of env t
    → (terms : List Tree) → map measured terms ≡ env → m ≡ measured (substituted terms t)
measured_by m env t h e terms f =
    let P : ℕ → Type 0 = λ n. HasPlacesBelow n t in
    let Q : List TermMeasure → Type 0 = λ v. HasPlacesBelow (length v) t → measure_of v t ≡ measured (substituted terms t) in
    e ∙ subst Q f (λ k. measured-substituted terms t (subst P (length-map terms measured) k)) h
