-- A path of a graph as the numbers of its arcs, from 1, each of which leaves the line that the one before it enters.
use Rattle.std.specs.Prelude.{◌≡◌, ℕ, zero, suc, Some, List, [], ◌∷◌, slice_get}
use Rattle.flow_graph.specs.Graph.{arc_to}
use Rattle.flow_graph.specs.declared.graph.Arc.{Arc}

-- the arc of this number goes from line i to line j
abbrev pub IsArcOf : List Arc → ℕ → ℕ → ℕ → Type 0
IsArcOf arcs zero i j = ⊥
IsArcOf arcs (suc k) i j = slice_get arcs k ≡ Some (arc_to i j)

abbrev pub IsArcPath : List Arc → ℕ → List ℕ → ℕ → Type 0
IsArcPath arcs i [] j = i ≡ j
IsArcPath arcs i (k ∷ w) j = (m : ℕ) × IsArcOf arcs k i m × IsArcPath arcs m w j
