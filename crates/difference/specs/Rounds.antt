-- Lifting in rounds, until each constraint is met, gives the least solution or edges that refute.
use Rattle.std.specs.Prelude.{◌≡◌, ◌<◌, ◌≤◌, ◌+◌, ◌++◌, ◌∷◌, [], ℕ, false, List, Some, length, slice_get, slice_set, All}
use Rattle.std.specs.declared.vec.Vec.{Vec}
use Rattle.std.specs.declared.alloc.Global.{Global}
use Rattle.difference.specs.Constraints.{Meets, IsLeast}
use Rattle.difference.specs.Chains.{IsRefuted, Kept}
use Rattle.difference.specs.Solving.{IsLower, slot, IsArc, IsQuiet, MetFrom}
use Rattle.difference.specs.declared.constraint.Range64.{Range64}
use Rattle.difference.specs.declared.constraint.Constraint.{Constraint}
use Rattle.difference.specs.declared.solving.Arc.{Arc}
use Rattle.difference.specs.declared.solving.Board.{Board}
use Rattle.difference.specs.declared.solving.Outcome.{Outcome}
use Rattle.difference.specs.declared.solving.Outcome.TheVariants.{Quiet, Raised, Refuted}
use Rattle.difference.specs.declared.rounds.Table.{Table}
use Rattle.difference.specs.declared.rounds.Found.{Found}
use Rattle.difference.specs.declared.rounds.Found.TheVariants as found

-- one bucket has one more arc at its end
pub record HasPushed (before after : List (Vec Arc Global)) (place : ℕ) (arc : Arc) : Type 0 where
  pub bucket : Vec Arc Global
  pub after_is : after ≡ slice_set before place bucket
  pub items : (v : Vec Arc Global) → slice_get before place ≡ Some v → bucket.items ≡ v.items ++ arc ∷ []

-- the first constraints, each in the bucket of its left side among n unknowns
pub record AreFiled (n : ℕ) (cs : List Constraint) (count : ℕ) (buckets : List (Vec Arc Global)) : Type 0 where
  pub size : length buckets ≡ n + 1
  pub within : count ≤ length cs
  pub known : (u : ℕ) (v : Vec Arc Global) → slice_get buckets u ≡ Some v → All (IsArc n cs u) v.items
  pub filed : (i : ℕ) (c : Constraint) (v : Vec Arc Global) → i < count → slice_get cs i ≡ Some c
      → slice_get buckets (slot n c.left) ≡ Some v → (j : ℕ) × (arc : Arc) × (slice_get v.items j ≡ Some arc) × (arc.index ≡ i)

abbrev pub IsFiled : ℕ → List Constraint → Table → Type 0
IsFiled n cs table = AreFiled n cs table.count table.buckets.items

-- a board whose first count constraints are met where their left sides are quiet
pub record IsReady (ranges : List Range64) (cs : List Constraint) (count : ℕ) (board : Board) : Type 0 where
  pub kept : Kept ranges cs board.values.items board.chains.items
  pub size : length board.pending.items ≡ length ranges + 1
  pub covered : (i : ℕ) (c : Constraint) → i < count → slice_get cs i ≡ Some c → IsQuiet (length ranges) board c.left
      → Meets board.values.items c

-- the values are as before, and the sides that were quiet are quiet
pub record IsSame (before after : Board) : Type 0 where
  pub values : after.values.items ≡ before.values.items
  pub quiet : (u : ℕ) → slice_get before.pending.items u ≡ Some false → slice_get after.pending.items u ≡ Some false

-- what the constraints with the left side at a place did to the board
abbrev pub IsCalm : List Range64 → List Constraint → ℕ → ℕ → Board → Board → Outcome → Type 0
IsCalm ranges cs count place before after Quiet =
    IsReady ranges cs count after × IsSame before after × (slice_get after.pending.items place ≡ Some false)
IsCalm ranges cs count place before after Raised = IsReady ranges cs count after × IsLower ranges before after
IsCalm ranges cs count place before after (Refuted edges) = IsRefuted ranges cs edges.items

-- what the constraints of all sides did to the board
abbrev pub IsSweep : List Range64 → List Constraint → ℕ → Board → Board → Outcome → Type 0
IsSweep ranges cs count before after Quiet =
    IsReady ranges cs count after × (after.values.items ≡ before.values.items) × MetFrom after.values.items cs 0 count
IsSweep ranges cs count before after Raised = IsReady ranges cs count after × IsLower ranges before after
IsSweep ranges cs count before after (Refuted edges) = IsRefuted ranges cs edges.items

-- a board whose values are the least solution
pub record IsSettled (ranges : List Range64) (cs : List Constraint) (count : ℕ) (board : Board) : Type 0 where
  pub ready : IsReady ranges cs count board
  pub least : IsLeast ranges cs board.values.items

-- what all constraints did to the board
abbrev pub IsRound : List Range64 → List Constraint → ℕ → Board → Board → Outcome → Type 0
IsRound ranges cs count before after Quiet = IsSettled ranges cs count after
IsRound ranges cs count before after Raised = IsReady ranges cs count after × IsLower ranges before after
IsRound ranges cs count before after (Refuted edges) = IsRefuted ranges cs edges.items

-- the least solution, or edges that refute
abbrev pub IsFound : List Range64 → List Constraint → ℕ → Found → Type 0
IsFound ranges cs count (found.Least board) = IsSettled ranges cs count board
IsFound ranges cs count (found.Refuted edges) = IsRefuted ranges cs edges.items
