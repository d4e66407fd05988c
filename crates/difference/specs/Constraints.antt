-- A difference constraint bounds one unknown less another. A solution gives each unknown a value of its range, such
-- that each constraint is met.
use Rattle.std.specs.Prelude.{◌≡◌, ◌≤◌, ◌<◌, ◌^◌, ℕ, ℤ, pos, ◌-ℤ◌, ◌≤ℤ◌, List, Option, Some, None, length, slice_get, slice_index_or, unsigned_abs, All}
use Rattle.difference.specs.declared.constraint.Range64.{Range64}
use Rattle.difference.specs.declared.constraint.Constraint.{Constraint}

-- the value of the unknown k
abbrev pub number : List ℤ → ℕ → ℤ
number vals k = slice_index_or vals k (pos 0)

-- the value of a side: that of its unknown, or 0 where it has none
abbrev pub value_at : List ℤ → Option ℕ → ℤ
value_at vals None = pos 0
value_at vals (Some k) = number vals k

-- a side of a constraint over n unknowns
abbrev pub IsUnknown : ℕ → Option ℕ → Type 0
IsUnknown n None = Unit {0}
IsUnknown n (Some k) = k < n

-- the least value is not above the greatest
abbrev pub IsRange : Range64 → Type 0
IsRange r = r.least ≤ℤ r.greatest

-- a constraint over n unknowns with a bound inside ±2^101
pub record IsGiven (n : ℕ) (c : Constraint) : Type 0 where
  pub left : IsUnknown n c.left
  pub right : IsUnknown n c.right
  pub bound : unsigned_abs c.bound ≤ 2 ^ 101

-- left minus right is at most the bound
pub record Meets (vals : List ℤ) (c : Constraint) : Type 0 where
  pub kept : (value_at vals c.left -ℤ value_at vals c.right) ≤ℤ c.bound

-- one value for each range, inside it
pub record IsWithin (ranges : List Range64) (vals : List ℤ) : Type 0 where
  pub size : length vals ≡ length ranges
  pub least : (k : ℕ) (r : Range64) → slice_get ranges k ≡ Some r → r.least ≤ℤ number vals k
  pub greatest : (k : ℕ) (r : Range64) → slice_get ranges k ≡ Some r → number vals k ≤ℤ r.greatest

pub record IsSolution (ranges : List Range64) (cs : List Constraint) (vals : List ℤ) : Type 0 where
  pub within : IsWithin ranges vals
  pub met : All (Meets vals) cs

-- a solution that is nowhere above another solution
pub record IsLeast (ranges : List Range64) (cs : List Constraint) (vals : List ℤ) : Type 0 where
  pub solution : IsSolution ranges cs vals
  pub least : (other : List ℤ) → IsSolution ranges cs other → (k : ℕ) → k < length ranges → number vals k ≤ℤ number other k

-- the constraint with index i is met
abbrev pub MeetsAt : List ℤ → List Constraint → ℕ → Type 0
MeetsAt vals cs i = (c : Constraint) → slice_get cs i ≡ Some c → Meets vals c

-- constraints, named by index, that have no solution together within the ranges
pub record HaveNone (ranges : List Range64) (cs : List Constraint) (named : List ℕ) : Type 0 where
  pub given : All (λ i. i < length cs) named
  pub none : (vals : List ℤ) → IsWithin ranges vals → All (MeetsAt vals cs) named → ⊥
