-- What it is to take nodes into intervals: which are marked as taken, and which are at the border, as arcs lead to them from taken ones.
use Rattle.std.specs.Prelude.{◌≢◌, ◌↔◌, ◌⊎◌, ℕ, ◌<◌, Bool, List, [], ◌∷◌, ◌++◌, length}
use Rattle.std.specs.List.{flat_map}
use Rattle.il_core.specs.LineGraph.{IsIn}
use Rattle.flow_graph.specs.Search.{IsMarked, IsUnmarked, Reaches, row_of}
use Rattle.interval_reduce.specs.declared.interval.Interval.{Interval}
use Rattle.interval_reduce.specs.Interval.{IsIntervalOf}
use Rattle.interval_reduce.specs.Level.{MayBeHead}
use Rattle.interval_reduce.specs.Choice.{Precedes}

-- exactly these nodes are marked
abbrev pub AreMarked : List Bool → List ℕ → Type 0
AreMarked marks nodes = (v : ℕ) → IsMarked marks v ↔ IsIn nodes v

-- nodes that are not taken
abbrev pub AreFree : List Bool → List ℕ → Type 0
AreFree taken nodes = (v : ℕ) → IsIn nodes v → (v < length taken) × IsUnmarked taken v

-- the border of intervals: the nodes outside to which arcs lead from them
abbrev pub IsBorder : (ℕ → Type 0) → (ℕ → ℕ → Type 0) → List ℕ → List ℕ → Type 0
IsBorder N E earlier border = (v : ℕ) → IsIn border v ↔ MayBeHead N E earlier v

-- the border after a node is taken: the others as before, and the nodes that follow it and are not taken
abbrev pub IsBorderAfter : ℕ → List ℕ → List Bool → List ℕ → List ℕ → Type 0
IsBorderAfter node row taken was now = (v : ℕ) → IsIn now v ↔ ((IsIn was v × (v ≢ node)) ⊎ (IsIn row v × IsUnmarked taken v))

-- the rows of predecessors and those of successors are of the same arcs
abbrev pub AreConverse : List (List ℕ) → List (List ℕ) → Type 0
AreConverse preds succs = (u v : ℕ) → Precedes preds u v ↔ IsIn (row_of succs u) v

-- behind intervals of these nodes comes this one; then exactly the nodes of all of them are marked, and this is their border
pub record IsTakenNext (N : ℕ → Type 0) (E : ℕ → ℕ → Type 0) (earlier : List ℕ) (i : Interval) (taken : List Bool) (border : List ℕ) : Type 0 where
  pub interval : IsIntervalOf N E earlier i.head i.members
  pub marked : AreMarked taken (earlier ++ i.members)
  pub at_border : IsBorder N E (earlier ++ i.members) border

-- the same of the reachable nodes of a graph, wherever the marks and the border were those of earlier intervals, and node 0 is in one
abbrev pub TakesNext : List (List ℕ) → List Bool → List ℕ → Interval → List Bool → List ℕ → Type 0
TakesNext preds was before i taken border = (earlier : List ℕ) → AreMarked was earlier → IsBorder (Reaches (Precedes preds) 0) (Precedes preds) earlier before
    → IsIn (earlier ++ i.head ∷ []) 0 → IsTakenNext (Reaches (Precedes preds) 0) (Precedes preds) earlier i taken border

-- the nodes of intervals, in their order
abbrev pub members_of : List Interval → List ℕ
members_of level = flat_map (λ i. i.members) level
