-- The least number with a property, and which of the nodes that arcs lead to from intervals an interval may take.
use Rattle.std.specs.Prelude.{ℕ, ◌<◌, Bool, Option, Some, None, List}
use Rattle.il_core.specs.LineGraph.{IsIn}
use Rattle.flow_graph.specs.Search.{IsMarked, row_of}
use Rattle.interval_reduce.specs.Interval.{IsLeast}

-- an arc goes from node u to node v, whose row has its predecessors
abbrev pub Precedes : List (List ℕ) → ℕ → ℕ → Type 0
Precedes preds u v = IsIn (row_of preds v) u

-- the least number with a property, or nothing where no number has it
abbrev pub IsLeastOf : (ℕ → Type 0) → Option ℕ → Type 0
IsLeastOf P None = (v : ℕ) → P v → ⊥
IsLeastOf P (Some v) = IsLeast P v

-- a number is less than the one given, if one is
abbrev pub IsBelow : ℕ → Option ℕ → Type 0
IsBelow v None = Unit {0}
IsBelow v (Some w) = v < w

-- a node at the border whose predecessors are all inside the interval in the making
abbrev pub IsFitting : List ℕ → List (List ℕ) → List Bool → ℕ → Type 0
IsFitting border preds inside v = IsIn border v × ((u : ℕ) → Precedes preds u v → IsMarked inside u)
