-- What the calls answer: the least solution or constraints that have none together, the least solution of the first
-- choice of sides that has one, and edges whose quantities sum to a negative constant.
use Rattle.std.specs.Prelude.{◌≡◌, ℕ, ℤ, Bool, true, false, List, [], ◌∷◌, ◌++◌, Option, Some, None, length}
use Rattle.difference.specs.Constraints.{IsGiven, IsSolution, IsLeast, HaveNone}
use Rattle.difference.specs.declared.constraint.Range64.{Range64}
use Rattle.difference.specs.declared.constraint.Constraint.{Constraint}
use Rattle.difference.specs.declared.constraint.Split.{Split}
use Rattle.difference.specs.declared.answers.Solved.{Solved}
use Rattle.difference.specs.declared.answers.Solved.TheVariants.{Least, Cycle}
use Rattle.difference.specs.declared.answers.SplitSolved.{SplitSolved}
use Rattle.difference.specs.declared.answers.SplitSolved.TheVariants as split

abbrev pub IsSolved : List Range64 → List Constraint → Solved → Type 0
IsSolved ranges cs (Least vals) = IsLeast ranges cs vals
IsSolved ranges cs (Cycle named) = HaveNone ranges cs named

-- both sides of a split are constraints over n unknowns
pub record IsSplit (n : ℕ) (s : Split) : Type 0 where
  pub low : IsGiven n s.low
  pub high : IsGiven n s.high

-- the constraints that a choice takes from the splits; `true` is the low side
abbrev pub sides : List Bool → List Split → List Constraint
sides [] ss = []
sides (b ∷ bs) [] = []
sides (true ∷ bs) (s ∷ ss) = s.low ∷ sides bs ss
sides (false ∷ bs) (s ∷ ss) = s.high ∷ sides bs ss

-- choices are ordered split by split from the first, low before high
abbrev pub earlier : List Bool → List Bool → Bool
earlier [] cs = false
earlier (b ∷ bs) [] = false
earlier (true ∷ bs) (true ∷ cs) = earlier bs cs
earlier (true ∷ bs) (false ∷ cs) = true
earlier (false ∷ bs) (true ∷ cs) = false
earlier (false ∷ bs) (false ∷ cs) = earlier bs cs

-- a choice has no solution
abbrev pub HasNone : List Range64 → List Constraint → List Split → List Bool → Type 0
HasNone ranges cs splits choice = (vals : List ℤ) → IsSolution ranges (cs ++ sides choice splits) vals → ⊥

-- the least solution of the first choice that has one
pub record IsFirst (ranges : List Range64) (cs : List Constraint) (splits : List Split) (vals : List ℤ) : Type 0 where
  pub choice : List Bool
  pub chosen : length choice ≡ length splits
  pub least : IsLeast ranges (cs ++ sides choice splits) vals
  pub first : (other : List Bool) → length other ≡ length splits → earlier other choice ≡ true → HasNone ranges cs splits other

-- no choice has a solution
abbrev pub IsUnmet : List Range64 → List Constraint → List Split → Type 0
IsUnmet ranges cs splits = (choice : List Bool) → length choice ≡ length splits → HasNone ranges cs splits choice

abbrev pub IsSplitSolved : List Range64 → List Constraint → List Split → SplitSolved → Type 0
IsSplitSolved ranges cs splits (split.Least vals) = IsFirst ranges cs splits vals
IsSplitSolved ranges cs splits split.Unmet = IsUnmet ranges cs splits

-- what a search answers: the first least solution, or None where no choice has one
abbrev pub IsSearched : List Range64 → List Constraint → List Split → Option (List ℤ) → Type 0
IsSearched ranges cs splits None = IsUnmet ranges cs splits
IsSearched ranges cs splits (Some vals) = IsFirst ranges cs splits vals
