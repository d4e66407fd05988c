-- A search for the least node with a property goes through the nodes in their order and keeps the least so far.
use Rattle.std.proofs.Common.{inl, inr, ℕ, ◌+◌, ◌<◌, ◌≤◌, Option, Some, None, List, length, take, get_or, arith}
use Rattle.std.proofs.lemmas.List.{take_all}
use Rattle.il_core.specs.LineGraph.{IsIn}
use Rattle.flow_graph.proofs.Members.{IsIn-more_cases, IsIn-more_old, IsIn-more_new}
use Rattle.interval_reduce.specs.Choice.{IsLeastOf, IsBelow}

-- what holds of each node of a front, and of the next node, holds of each of the front with one node more
pub front_more : (P : ℕ → Type 0) (xs : List ℕ) (i d : ℕ) → i < length xs → ((u : ℕ) → IsIn (take i xs) u → P u) → P (get_or xs i d)
    → (u : ℕ) → IsIn (take (i + 1) xs) u → P u
front_more P xs i d l h new u n = elim (IsIn-more_cases xs i d u l n) [ inl old ↦ h u old | inr same ↦ rw (← same) new ]

-- what holds of each node of a front that is the whole holds of each node
pub front_all : (P : ℕ → Type 0) (xs : List ℕ) (i : ℕ) → length xs ≤ i → ((u : ℕ) → IsIn (take i xs) u → P u) → (u : ℕ) → IsIn xs u → P u
front_all P xs i l h = rw (take_all i xs l) at h

-- the least node of a front with a property
abbrev pub IsLeastBefore : (ℕ → Type 0) → List ℕ → ℕ → Option ℕ → Type 0
IsLeastBefore P xs i least = IsLeastOf (λ v. IsIn (take i xs) v × P v) least

-- a node without the property, or not less than the least so far, changes nothing
pub least_without : (P : ℕ → Type 0) (xs : List ℕ) (i d : ℕ) (least : Option ℕ) → i < length xs → (P (get_or xs i d) → ⊥)
    → IsLeastBefore P xs i least → IsLeastBefore P xs (i + 1) least
least_without P xs i d None l without h = λ v q. elim (IsIn-more_cases xs i d v l q.0) [ inl old ↦ h v (old, q.1) | inr same ↦ without (rw same q.1) ]
least_without P xs i d (Some w) l without h = (
  (IsIn-more_old xs i d w l h.0.0, h.0.1),
  λ v q. elim (IsIn-more_cases xs i d v l q.0) [ inl old ↦ h.1 v (old, q.1) | inr same ↦ absurd (without (rw same q.1)) ],
)

pub least_above : (P : ℕ → Type 0) (xs : List ℕ) (i d : ℕ) (least : Option ℕ) → i < length xs → (IsBelow (get_or xs i d) least → ⊥)
    → IsLeastBefore P xs i least → IsLeastBefore P xs (i + 1) least
least_above P xs i d None l without h = absurd (without tt)
least_above P xs i d (Some w) l without h = (
  (IsIn-more_old xs i d w l h.0.0, h.0.1),
  λ v q. elim (IsIn-more_cases xs i d v l q.0) [ inl old ↦ h.1 v (old, q.1) | inr same ↦ omega arith ],
)

-- a lesser node with the property is the new least
pub least_new : (P : ℕ → Type 0) (xs : List ℕ) (i d : ℕ) (least : Option ℕ) → i < length xs → IsBelow (get_or xs i d) least → P (get_or xs i d)
    → IsLeastBefore P xs i least → IsLeastBefore P xs (i + 1) (Some (get_or xs i d))
least_new P xs i d least l below has h = (
  (IsIn-more_new xs i d l, has),
  λ v q. elim (IsIn-more_cases xs i d v l q.0) [ inl old ↦ from_old v least below h old q.1 | inr same ↦ omega arith ],
)
  where
    from_old : (v : ℕ) (o : Option ℕ) → IsBelow (get_or xs i d) o → IsLeastBefore P xs i o → IsIn (take i xs) v → P v → get_or xs i d ≤ v
    from_old v None b k old p = absurd (k v (old, p))
    from_old v (Some w) b k old p = let m = k.1 v (old, p) in omega arith

-- at the end the least so far is the least of all
pub least_end : (P : ℕ → Type 0) (xs : List ℕ) (i : ℕ) (least : Option ℕ) → length xs ≤ i → ((v : ℕ) → P v → IsIn xs v)
    → IsLeastBefore P xs i least → IsLeastOf P least
least_end P xs i None l within h = λ v p. h v (rw (take_all i xs l) (within v p), p)
least_end P xs i (Some w) l within h = (h.0.1, λ v p. h.1 v (rw (take_all i xs l) (within v p), p))
