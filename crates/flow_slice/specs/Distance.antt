-- The distance of a line from a set of lines is the length of a shortest path from it into the set; there is none where no path leads into the set.
use Rattle.std.specs.Prelude.{◌≡◌, ℕ, ◌≤◌, Bool, true, false, not, nat_lt, Option, Some, None, List, [], ◌∷◌, length, slice_index_or}
use Rattle.flow_slice.specs.Nearer.{LeadsInto}

pub record IsDistance (E : ℕ → ℕ → Type 0) (P : ℕ → Type 0) (a n : ℕ) : Type 0 where
  pub lines : List ℕ
  pub leads : LeadsInto E P a lines
  pub size : length lines ≡ n
  pub least : (others : List ℕ) → LeadsInto E P a others → n ≤ length others

abbrev pub HasDistance : (ℕ → ℕ → Type 0) → (ℕ → Type 0) → ℕ → Option ℕ → Type 0
HasDistance E P a None = (lines : List ℕ) → LeadsInto E P a lines → ⊥
HasDistance E P a (Some n) = IsDistance E P a n

-- the entry of line k
abbrev pub distance_at : List (Option ℕ) → ℕ → Option ℕ
distance_at distances k = slice_index_or distances k None

-- an entry for each of so many lines
pub record AreDistances (E : ℕ → ℕ → Type 0) (P : ℕ → Type 0) (count : ℕ) (distances : List (Option ℕ)) : Type 0 where
  pub size : length distances ≡ count
  pub each : (k : ℕ) → HasDistance E P k (distance_at distances k)

-- the first distance is there, and the second is greater or not there
abbrev pub is_shorter : Option ℕ → Option ℕ → Bool
is_shorter None b = false
is_shorter (Some n) None = true
is_shorter (Some n) (Some m) = nat_lt n m

-- the truth value to which a test is fixed whose true and false arc enter these two lines; TRUE for every other line
abbrev pub side_of : List (Option ℕ) → List ℕ → Bool
side_of distances [] = true
side_of distances (met ∷ []) = true
side_of distances (met ∷ unmet ∷ []) = not (is_shorter (distance_at distances unmet) (distance_at distances met))
side_of distances (met ∷ unmet ∷ other ∷ more) = true
