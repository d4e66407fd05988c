-- Lists of numbers: members are decided, lists that differ are no longer than their bound, and lists that can always grow are none.
use Rattle.std.proofs.Common.{◌≡◌, ◌≢◌, ◌⊎◌, inl, inr, refl, sym, ℕ, zero, suc, ◌+◌, ◌<◌, ◌≤◌, true, false, List, [], ◌∷◌, ◌++◌, length, arith}
use Rattle.std.specs.List.{IsDistinct, AllByRecursion, list_any}
use Rattle.std.proofs.Math.Dec.{eqb}
use Rattle.std.proofs.lemmas.Bool.Decides.{eqb_tells}
use Rattle.std.proofs.lemmas.Map.Steps.{length-le_from_distinct_below}
use Rattle.il_core.specs.LineGraph.{IsIn}
use Rattle.flow_graph.specs.Search.{AreBelow}
use Rattle.flow_graph.specs.Reached.{Differ}
use Rattle.flow_graph.proofs.Members.{IsIn-append_left, IsIn-append_right, IsIn-append_cases}

-- two numbers are equal or not
pub same_or_not : (a b : ℕ) → (a ≡ b) ⊎ (a ≢ b)
same_or_not a b = elim (eqb_tells a b) [ inl e ↦ inl e.1 | inr n ↦ inr n.1 ]

-- a number is a member or not
pub is_in_or_not : (xs : List ℕ) (x : ℕ) → IsIn xs x ⊎ (IsIn xs x → ⊥)
is_in_or_not [] x = inr (λ h. h)
is_in_or_not (y ∷ ys) x = elim (same_or_not y x) [
  | inl e ↦ inl (inl e)
  | inr n ↦ elim (is_in_or_not ys x) [ inl h ↦ inl (inr h) | inr m ↦ inr (λ h. elim h [ inl e ↦ n e | inr t ↦ m t ]) ]
]

apart : (x : ℕ) (xs : List ℕ) → (IsIn xs x → ⊥) → AllByRecursion (λ y. eqb x y ≡ false) xs
apart x [] n = tt
apart x (y ∷ ys) n = (elim (eqb_tells x y) [ inl e ↦ absurd (n (inl (sym e.1))) | inr o ↦ o.0 ], apart x ys (λ h. n (inr h)))

distinct_from : (xs : List ℕ) → Differ xs → IsDistinct eqb xs
unfolding IsDistinct
distinct_from [] d = tt
distinct_from (x ∷ xs) d = (apart x xs d.0, distinct_from xs d.1)

pub member_from : (xs : List ℕ) (x : ℕ) → list_any (eqb x) xs ≡ true → IsIn xs x
member_from [] x h = absurd (cc)
member_from (y ∷ ys) x h = elim (eqb_tells x y) [ inl e ↦ inl (sym e.1) | inr o ↦ inr (member_from ys x (rw o.0 at h)) ]

pub any_from : (xs : List ℕ) (x : ℕ) → IsIn xs x → list_any (eqb x) xs ≡ true
any_from [] x h = absurd h
any_from (y ∷ ys) x h = elim (eqb_tells x y) [
  | inl e ↦ rw e.0
  | inr o ↦ rw o.0 (elim h [ inl e ↦ absurd (o.1 (sym e)) | inr i ↦ any_from ys x i ])
]

-- two lists without a common member differ as one
pub Differ-append : (xs ys : List ℕ) → Differ xs → Differ ys → ((k : ℕ) → IsIn xs k → IsIn ys k → ⊥) → Differ (xs ++ ys)
Differ-append [] ys d e n = e
Differ-append (x ∷ xs) ys d e n = (
  (λ h. elim (IsIn-append_cases xs ys x h) [ inl i ↦ d.0 i | inr j ↦ n x (inl refl) j ]),
  Differ-append xs ys d.1 e (λ k i j. n k (inr i) j),
)

-- and the other way round
pub Differ-parts : (xs ys : List ℕ) → Differ (xs ++ ys) → Differ xs × Differ ys × ((k : ℕ) → IsIn xs k → IsIn ys k → ⊥)
Differ-parts [] ys d = (tt, d, λ k h. absurd h)
Differ-parts (x ∷ xs) ys d =
    let t = Differ-parts xs ys d.1 in (
      ((λ h. d.0 (IsIn-append_left xs ys x h)), t.0),
      t.1,
      λ k h j. elim h [ inl e ↦ d.0 (IsIn-append_right xs ys x (rw e j)) | inr i ↦ t.2 k i j ],
    )

-- numbers below a limit that differ are no more than the limit
pub length_below : (xs : List ℕ) (n : ℕ) → Differ xs → AreBelow n xs → length xs ≤ n
length_below xs n d b = length-le_from_distinct_below xs n (distinct_from xs d) (λ q h. b q (member_from xs q h))

-- where the lists of a kind have different numbers below a limit, and each can grow, there is none
pub drained : (n : ℕ) (Q : List ℕ → Type 0) → ((xs : List ℕ) → Q xs → Differ xs × AreBelow n xs) → ((xs : List ℕ) → Q xs → ((x : ℕ) → Q (x ∷ xs) → ⊥) → ⊥)
    → (xs : List ℕ) → Q xs → ⊥
drained n Q fine grows xs q = by_fuel (suc n) xs q (omega arith)
  where
    by_fuel : (fuel : ℕ) (ys : List ℕ) → Q ys → n < fuel + length ys → ⊥
    by_fuel zero ys r l = let f = fine ys r in let b = length_below ys n f.0 f.1 in omega arith
    by_fuel (suc fuel) ys r l = grows ys r (λ x s. by_fuel fuel (x ∷ ys) s (omega arith))
