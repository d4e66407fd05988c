-- The arcs that leave marked lines.
use Rattle.std.specs.Prelude.{◌≡◌, ℕ, Bool, Some, List, slice_get}
use Rattle.flow_graph.specs.Search.{IsMarked}
use Rattle.flow_graph.specs.declared.graph.Arc.{Arc}

-- arc k, counted from 0, leaves a marked line
abbrev pub LeavesMarked : List Arc → List Bool → ℕ → Type 0
LeavesMarked arcs marks k = (a : Arc) × (slice_get arcs k ≡ Some a) × IsMarked marks a.tail
