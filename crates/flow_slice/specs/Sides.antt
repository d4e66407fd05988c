-- The lines of a slice and its fixed tests, by marks of the relevant lines and distances from them.
use Rattle.std.specs.Prelude.{◌≡◌, ℕ, ◌+◌, ◌<◌, Bool, Option, Some, List, [], ◌∷◌, map, slice_get}
use Rattle.il_core.specs.LineGraph.{IsIn, heads_of, heads_at}
use Rattle.il_core.specs.Procedure.{Instruction}
use Rattle.flow_graph.specs.Graph.{kind_of}
use Rattle.flow_graph.specs.Reached.{Lists}
use Rattle.flow_graph.specs.Search.{IsMarked, IsUnmarked}
use Rattle.flow_graph.specs.declared.graph.NodeKind.TheVariants.{Test}
use Rattle.info_flow.specs.Growth.{is_relevant}
use Rattle.flow_slice.specs.declared.sliced.Fixed.{Fixed}
use Rattle.flow_slice.specs.Distance.{side_of}
use Rattle.flow_slice.specs.Slice.{sliced}

-- the lines that are made of lines numbered from k on
abbrev pub sliced_from : List Bool → List (Option ℕ) → ℕ → List Instruction → List Instruction
sliced_from marks distances k [] = []
sliced_from marks distances k (i ∷ rest) = sliced (is_relevant marks k) (side_of distances (heads_of k i)) i ∷ sliced_from marks distances (k + 1) rest

-- the arcs of each line enter lines below a limit
abbrev pub HaveHeadsBelow : ℕ → List Instruction → Type 0
HaveHeadsBelow n lines = (k : ℕ) (i : Instruction) → slice_get lines k ≡ Some i → (h : ℕ) → IsIn (heads_of k i) h → h < n

-- line k is a reachable test that is not marked
abbrev pub IsLoose : List Instruction → List Bool → List Bool → ℕ → Type 0
IsLoose lines reached marks k = IsMarked reached k × IsUnmarked marks k × ((i : Instruction) × (slice_get lines k ≡ Some i) × (kind_of i ≡ Test))

-- the truth value to which the test at line k is fixed
abbrev pub side_at : List (Option ℕ) → List Instruction → ℕ → Bool
side_at distances lines k = side_of distances (heads_at k (slice_get lines k))

-- these tests, ascending, each with the truth value to which it is fixed
pub record AreFixed (lines : List Instruction) (reached marks : List Bool) (distances : List (Option ℕ)) (fixed : List Fixed) : Type 0 where
  pub tests : Lists (IsLoose lines reached marks) (map (λ f. f.line) fixed)
  pub sides : (f : Fixed) → IsIn fixed f → f.taken ≡ side_at distances lines f.line
