-- Lists of the numbers with a property, made from the least number up.
use Rattle.std.proofs.Common.{◌≡◌, inl, inr, subst, ℕ, ◌+◌, ◌<◌, List, [], ◌∷◌, ◌++◌, length, get_or, arith}
use Rattle.std.specs.Prelude.{◌↔◌}
use Rattle.std.specs.List.Sorted.{IsStrictlyIncreasing}
use Rattle.std.proofs.lemmas.Bool.{cases_lt}
use Rattle.std.proofs.lemmas.List.{length_push, get_or_append_left, get_or_push}
use Rattle.il_core.specs.LineGraph.{IsIn}
use Rattle.flow_graph.specs.Reached.{Lists}
use Rattle.flow_graph.proofs.Members.{IsIn-append_left, IsIn-push, IsIn-push_cases, IsIn-get_or}

-- the list has exactly the numbers below n with a property, ascending
pub record ListsBelow (P : ℕ → Type 0) (n : ℕ) (xs : List ℕ) : Type 0 where
  pub ascending : IsStrictlyIncreasing xs
  pub exact : (k : ℕ) → IsIn xs k ↔ (P k × k < n)

pub list_none : (P : ℕ → Type 0) → ListsBelow P 0 []
list_none P = record { ascending = λ k l. absurd (omega arith); exact = λ k. (λ i. absurd i, λ t. absurd (omega (arith, t.1))) }

-- a greater number at the end
ascending_push : (xs : List ℕ) (n : ℕ) → IsStrictlyIncreasing xs → ((k : ℕ) → IsIn xs k → k < n) → IsStrictlyIncreasing (xs ++ n ∷ [])
ascending_push xs n a below k l = elim (cases_lt (k + 1) (length xs)) [
  | inl m ↦ rw (get_or_append_left xs (n ∷ []) 0 k (omega arith), get_or_append_left xs (n ∷ []) 0 (k + 1) m) (a k m)
  | inr m ↦
      let e = length_push xs n in
      let same : length xs ≡ k + 1 = omega (arith, l, m, e) in
      let inside : k < length xs = omega arith in
      rw (get_or_append_left xs (n ∷ []) 0 k inside, get_or_push xs n 0 (k + 1) same) (below (get_or xs k 0) (IsIn-get_or xs k 0 inside))
]

pub list_push : (P : ℕ → Type 0) (n : ℕ) (xs : List ℕ) → P n → ListsBelow P n xs → ListsBelow P (n + 1) (xs ++ n ∷ [])
list_push P n xs h w = record {
  ascending = ascending_push xs n w.ascending (λ k i. ((w.exact k).0 i).1);
  exact = λ k. (
    λ i. elim (IsIn-push_cases xs n k i) [
      | inl j ↦ let t = (w.exact k).0 j in let l = t.1 in (t.0, omega arith)
      | inr e ↦ (subst P e h, omega arith)
    ],
    λ t. elim (cases_lt k n) [
      | inl l ↦ IsIn-append_left xs (n ∷ []) k ((w.exact k).1 (t.0, l))
      | inr l ↦ let m = t.1 in let e : n ≡ k = omega arith in rw (← e) (IsIn-push xs n)
    ],
  );
}

pub list_skip : (P : ℕ → Type 0) (n : ℕ) (xs : List ℕ) → (P n → ⊥) → ListsBelow P n xs → ListsBelow P (n + 1) xs
list_skip P n xs h w = record {
  ascending = w.ascending;
  exact = λ k. (
    λ i. let t = (w.exact k).0 i in let l = t.1 in (t.0, omega arith),
    λ t. elim (cases_lt k n) [
      | inl l ↦ (w.exact k).1 (t.0, l)
      | inr l ↦ let m = t.1 in let e : k ≡ n = omega arith in absurd (h (subst P e t.0))
    ],
  );
}

pub list_end : (P : ℕ → Type 0) (n : ℕ) (xs : List ℕ) → ((k : ℕ) → P k → k < n) → ListsBelow P n xs → Lists P xs
list_end P n xs below w = record { ascending = w.ascending; exact = λ k. (λ i. ((w.exact k).0 i).0, λ t. (w.exact k).1 (t, below k t)) }

-- one property in place of another that says the same
pub lists_same : (P Q : ℕ → Type 0) (xs : List ℕ) → ((k : ℕ) → P k ↔ Q k) → Lists P xs → Lists Q xs
lists_same P Q xs f w = record { ascending = w.ascending; exact = λ k. (λ i. (f k).0 ((w.exact k).0 i), λ q. (w.exact k).1 ((f k).1 q)) }
