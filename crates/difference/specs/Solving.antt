-- A constraint lifts an unknown where its value is below what the constraint asks.
use Rattle.std.specs.Prelude.{◌≡◌, ◌<◌, ◌≤◌, ◌+◌, ℕ, ℤ, ◌-ℤ◌, ◌≤ℤ◌, ◌<ℤ◌, ◌^◌, false, List, [], ◌∷◌, Option, Some, None, length, slice_get, unsigned_abs}
use Rattle.difference.specs.Constraints.{number, value_at, IsUnknown, Meets, MeetsAt}
use Rattle.difference.specs.Chains.{IsRefuted, IsChain, Proves, Kept}
use Rattle.difference.specs.declared.constraint.Range64.{Range64}
use Rattle.difference.specs.declared.constraint.Constraint.{Constraint}
use Rattle.difference.specs.declared.chain.Step.{Step}
use Rattle.difference.specs.declared.solving.Lift.{Lift}
use Rattle.difference.specs.declared.solving.Lift.TheVariants.{Met, Raised, Refuted}
use Rattle.difference.specs.declared.solving.Arc.{Arc}
use Rattle.difference.specs.declared.solving.Board.{Board}
use Rattle.difference.specs.declared.solving.Outcome.{Outcome}
use Rattle.difference.specs.declared.solving.Outcome.TheVariants as outcome

-- the constraint i asks its right side, an unknown, for more than its value
pub record IsPulled (cs : List Constraint) (values : List ℤ) (i node : ℕ) : Type 0 where
  pub known : i < length cs
  pub right : (c : Constraint) → slice_get cs i ≡ Some c → c.right ≡ Some node
  pub above : (c : Constraint) → slice_get cs i ≡ Some c → number values node <ℤ (value_at values c.left -ℤ c.bound)

-- an unknown below its range's greatest value gets a higher value, and a chain that proves it
pub record IsRaised (ranges : List Range64) (cs : List Constraint) (values : List ℤ) (node : ℕ) (value : ℤ) (steps : List Step) : Type 0 where
  pub known : node < length ranges
  pub higher : number values node <ℤ value
  pub fits : (r : Range64) → slice_get ranges node ≡ Some r → value ≤ℤ r.greatest
  pub chain : (after : List ℤ) → number after node ≡ value → ((k : ℕ) → number values k ≤ℤ number after k) → IsChain ranges cs after steps
  pub proves : Proves ranges cs steps (Some node) value

-- the value is what the constraint i asks of its right side
pub record Asks (cs : List Constraint) (values : List ℤ) (i node : ℕ) (value : ℤ) : Type 0 where
  pub right : (c : Constraint) → slice_get cs i ≡ Some c → c.right ≡ Some node
  pub value_is : (c : Constraint) → slice_get cs i ≡ Some c → value ≡ value_at values c.left -ℤ c.bound

-- what becomes of the constraint i
abbrev pub IsLift : List Range64 → List Constraint → List ℤ → ℕ → Lift → Type 0
IsLift ranges cs values i Met = MeetsAt values cs i
IsLift ranges cs values i (Raised node value chain) =
    IsRaised ranges cs values node value chain.items × Asks cs values i node value
IsLift ranges cs values i (Refuted edges) = IsRefuted ranges cs edges.items

-- the sum of what the values may still rise by
abbrev pub slack : List Range64 → List ℤ → ℕ
slack [] vs = 0
slack (r ∷ rs) [] = 0
slack (r ∷ rs) (v ∷ vs) = unsigned_abs (r.greatest -ℤ v) + slack rs vs

-- some value rose
pub record IsLower (ranges : List Range64) (before after : Board) : Type 0 where
  pub lower : slack ranges after.values.items < slack ranges before.values.items

-- the place of a side among n + 1: that of its unknown, or the last where it has none
abbrev pub slot : ℕ → Option ℕ → ℕ
slot n None = n
slot n (Some k) = k

-- the arc is a constraint whose left side is at a place
pub record IsArc (n : ℕ) (cs : List Constraint) (place : ℕ) (arc : Arc) : Type 0 where
  pub known : arc.index < length cs
  pub right : IsUnknown n arc.right
  pub bound : unsigned_abs arc.bound ≤ 2 ^ 101
  pub left_is : (c : Constraint) → slice_get cs arc.index ≡ Some c → slot n c.left ≡ place
  pub right_is : (c : Constraint) → slice_get cs arc.index ≡ Some c → c.right ≡ arc.right
  pub bound_is : (c : Constraint) → slice_get cs arc.index ≡ Some c → c.bound ≡ arc.bound

-- the constraints with this left side have lifted since its value last changed
abbrev pub IsQuiet : ℕ → Board → Option ℕ → Type 0
IsQuiet n board side = slice_get board.pending.items (slot n side) ≡ Some false

-- lifting keeps the board, and no constraint becomes unmet whose left side stays quiet
pub record Keeps (ranges : List Range64) (cs : List Constraint) (before after : Board) : Type 0 where
  pub kept : Kept ranges cs after.values.items after.chains.items
  pub size : length after.pending.items ≡ length before.pending.items
  pub quiet : (c : Constraint) → IsQuiet (length ranges) after c.left → IsQuiet (length ranges) before c.left
  pub met : (c : Constraint) → IsQuiet (length ranges) after c.left → Meets before.values.items c → Meets after.values.items c

-- the constraint i is met where its left side is quiet
abbrev pub MetQuiet : ℕ → List Constraint → ℕ → Board → Type 0
MetQuiet n cs i board = (c : Constraint) → slice_get cs i ≡ Some c → IsQuiet n board c.left → Meets board.values.items c

-- what the constraint i did to the board
abbrev pub IsApplied : List Range64 → List Constraint → ℕ → Board → Board → Outcome → Type 0
IsApplied ranges cs i before after outcome.Quiet = (after ≡ before) × MeetsAt before.values.items cs i
IsApplied ranges cs i before after outcome.Raised =
    Keeps ranges cs before after × IsLower ranges before after × MetQuiet (length ranges) cs i after
IsApplied ranges cs i before after (outcome.Refuted edges) = IsRefuted ranges cs edges.items

-- the constraints from first up to n are met
abbrev pub MetFrom : List ℤ → List Constraint → ℕ → ℕ → Type 0
MetFrom vals cs first n = (i : ℕ) → first ≤ i → i < n → MeetsAt vals cs i

-- what the constraints from first on did to the board
abbrev pub IsPass : List Range64 → List Constraint → ℕ → Board → Board → Outcome → Type 0
IsPass ranges cs first before after outcome.Quiet = (after ≡ before) × MetFrom before.values.items cs first (length cs)
IsPass ranges cs first before after outcome.Raised = Keeps ranges cs before after × IsLower ranges before after
IsPass ranges cs first before after (outcome.Refuted edges) = IsRefuted ranges cs edges.items

-- the constraints of a bucket up to the place m are met where their left sides are quiet
abbrev pub MetIn : ℕ → List Constraint → List Arc → ℕ → Board → Type 0
MetIn n cs bucket m board = (j : ℕ) (arc : Arc) → j < m → slice_get bucket j ≡ Some arc → MetQuiet n cs arc.index board

-- what the constraints of a bucket did to the board
abbrev pub IsSpread : List Range64 → List Constraint → List Arc → Board → Board → Outcome → Type 0
IsSpread ranges cs bucket before after outcome.Quiet = (after ≡ before) × MetIn (length ranges) cs bucket (length bucket) after
IsSpread ranges cs bucket before after outcome.Raised =
    Keeps ranges cs before after × IsLower ranges before after × MetIn (length ranges) cs bucket (length bucket) after
IsSpread ranges cs bucket before after (outcome.Refuted edges) = IsRefuted ranges cs edges.items
