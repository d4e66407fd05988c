-- An interval begins with its head and takes, again and again, the least node outside all intervals whose predecessors are all inside it.
use Rattle.std.specs.Prelude.{◌≡◌, ℕ, ◌≤◌, List, [], ◌∷◌, ◌++◌}
use Rattle.il_core.specs.LineGraph.{IsIn}

-- the least number with a property
abbrev pub IsLeast : (ℕ → Type 0) → ℕ → Type 0
IsLeast P v = P v × ((w : ℕ) → P w → v ≤ w)

-- an interval with these members so far may take node v: it is in no interval, and its predecessors are all members
pub record Fits (N : ℕ → Type 0) (E : ℕ → ℕ → Type 0) (earlier members : List ℕ) (v : ℕ) : Type 0 where
  pub node : N v
  pub not_earlier : IsIn earlier v → ⊥
  pub not_taken : IsIn members v → ⊥
  pub entered_inside : (u : ℕ) → E u v → IsIn members u

-- behind these members the interval takes the others in their order, each the least that it may take, and then it may take no more
abbrev pub Takes : (ℕ → Type 0) → (ℕ → ℕ → Type 0) → List ℕ → List ℕ → List ℕ → Type 0
Takes N E earlier members [] = (v : ℕ) → Fits N E earlier members v → ⊥
Takes N E earlier members (v ∷ others) = IsLeast (Fits N E earlier members) v × Takes N E earlier (members ++ v ∷ []) others

-- the members of the interval of a head, where these nodes are in earlier intervals
abbrev pub IsIntervalOf : (ℕ → Type 0) → (ℕ → ℕ → Type 0) → List ℕ → ℕ → List ℕ → Type 0
IsIntervalOf N E earlier head members = (others : List ℕ) × (members ≡ head ∷ others) × Takes N E earlier (head ∷ []) others
