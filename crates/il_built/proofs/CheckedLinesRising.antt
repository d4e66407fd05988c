-- Numbers that rise by at most one from each number to the next.
use Rattle.std.proofs.Common.{◌≡◌, ℕ, zero, suc, ◌+◌, ◌<◌, ◌≤◌, ap, inl, inr, arith}
use Rattle.std.proofs.lemmas.Bool.{cases_lt}

-- what does not fall from one number to the next does not fall
pub rising : (f : ℕ → ℕ) (n : ℕ) → ((k : ℕ) → k < n → f k ≤ f (suc k)) → (i j : ℕ) → i ≤ j → j ≤ n → f i ≤ f j
rising f n step i zero h low = let same : i ≡ zero = omega arith in let e : f i ≡ f zero = ap f same in omega arith
rising f n step i (suc j) h low = elim (cases_lt j i) [
  | inl less ↦ let same : i ≡ suc j = omega arith in let e : f i ≡ f (suc j) = ap f same in omega arith
  | inr more ↦
      let within : j < n = omega (arith, low) in
      let before : j ≤ n = omega arith in
      let rest : f i ≤ f j = rising f n step i j more before in
      let one : f j ≤ f (suc j) = step j within in
      omega (arith, rest, one)
]

-- a number behind which the value passes v
pub record Crossing (f : ℕ → ℕ) (n v : ℕ) : Type 0 where
  pub at : ℕ
  pub below : at < n
  pub here : f at ≡ v
  pub next : f (suc at) ≡ v + 1

-- what rises by at most one passes each value below its last
pub crossing : (f : ℕ → ℕ) (n v : ℕ) → ((k : ℕ) → k < n → f (suc k) ≤ f k + 1) → f 0 ≤ v → v < f n → Crossing f n v
crossing f zero v step low high = absurd (omega (arith, low, high))
crossing f (suc n) v step low high = elim (cases_lt v (f n)) [
  | inl less ↦
      let there = crossing f n v (λ k h. let further : k < suc n = omega (arith, h) in step k further) low less in
      let below : there.at < suc n = omega (arith, there.below) in
      record { at = there.at; below = below; here = there.here; next = there.next }
  | inr more ↦
      let last : n < suc n = omega arith in
      let one : f (suc n) ≤ f n + 1 = step n last in
      let here : f n ≡ v = omega (arith, more, one, high) in
      let next : f (suc n) ≡ v + 1 = omega (arith, more, one, high) in
      record { at = n; below = last; here = here; next = next }
]
