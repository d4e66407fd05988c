-- A walk is a list of lines along arcs; a line is found from seeds where a walk over lines that are not blocked comes to it.
use Rattle.std.specs.Prelude.{◌≡◌, ℕ, ◌<◌, Bool, true, false, List, [], ◌∷◌, slice_index_or}
use Rattle.il_core.specs.LineGraph.{IsIn}

-- the lines that a walk from line a comes to one after the other, the last of which is line b
abbrev pub IsWalk : (ℕ → ℕ → Type 0) → ℕ → List ℕ → ℕ → Type 0
IsWalk E a [] b = a ≡ b
IsWalk E a (c ∷ rest) b = E a c × IsWalk E c rest b

-- some walk from line a ends at line b
abbrev pub Reaches : (ℕ → ℕ → Type 0) → ℕ → ℕ → Type 0
Reaches E a b = (lines : List ℕ) × IsWalk E a lines b

-- line k is marked
abbrev pub IsMarked : List Bool → ℕ → Type 0
IsMarked marks k = slice_index_or marks k false ≡ true

abbrev pub IsUnmarked : List Bool → ℕ → Type 0
IsUnmarked marks k = slice_index_or marks k false ≡ false

-- the row of line k: the lines that follow it
abbrev pub row_of : List (List ℕ) → ℕ → List ℕ
row_of rows k = slice_index_or rows k []

-- line b is in the row of line a, and is not blocked
abbrev pub Follows : List (List ℕ) → List Bool → ℕ → ℕ → Type 0
Follows rows blocked a b = IsIn (row_of rows a) b × IsUnmarked blocked b

-- a walk over lines that are not blocked comes from a seed to line b
pub record IsFound (rows : List (List ℕ)) (blocked : List Bool) (seeds : List ℕ) (b : ℕ) : Type 0 where
  pub seed : ℕ
  pub given : IsIn seeds seed
  pub free : IsUnmarked blocked seed
  pub reached : Reaches (Follows rows blocked) seed b

-- each of the lines is below a limit
abbrev pub AreBelow : ℕ → List ℕ → Type 0
AreBelow n xs = (k : ℕ) → IsIn xs k → k < n

-- each row holds lines below a limit alone
abbrev pub StayBelow : ℕ → List (List ℕ) → Type 0
StayBelow n rows = (a : ℕ) → AreBelow n (row_of rows a)
