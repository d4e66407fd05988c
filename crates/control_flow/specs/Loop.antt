-- A line is a loop head where an arc comes back to it from a line that is reached through it alone; the members of its loop, and the
-- assertions with which it begins.
use Rattle.std.specs.Prelude.{◌≡◌, ◌⊎◌, ℕ, ◌+◌, ◌≤◌, Option, Some, None, List, ◌∷◌, slice_get}
use Rattle.il_core.specs.LineGraph.{IsIn}
use Rattle.flow_graph.specs.Graph.{Joins}
use Rattle.flow_graph.specs.Search.{IsWalk}
use Rattle.flow_graph.specs.Reached.{IsReached}
use Rattle.flow_graph.specs.Meeting.{IsOnEvery}
use Rattle.flow_graph.specs.declared.graph.Arc.{Arc}
use Rattle.flow_graph.specs.declared.graph.Node.{Node}
use Rattle.flow_graph.specs.declared.graph.NodeKind.{NodeKind}
use Rattle.flow_graph.specs.declared.graph.NodeKind.TheVariants as kind

-- an arc from a reachable line u to line h, where h stands on every path from line 0 to u
pub record IsBackArc (arcs : List Arc) (u h : ℕ) : Type 0 where
  pub arc : Joins arcs u h
  pub reached : IsReached arcs u
  pub through : IsOnEvery (Joins arcs) 0 h u

abbrev pub IsHead : List Arc → ℕ → Type 0
IsHead arcs h = (u : ℕ) × IsBackArc arcs u h

-- line k comes to the tail of an arc back to line h along a walk that does not pass h
abbrev pub ComesRound : List Arc → ℕ → ℕ → Type 0
ComesRound arcs h k = (u : ℕ) × (lines : List ℕ) × IsBackArc arcs u h × IsWalk (Joins arcs) k lines u × (IsIn (k ∷ lines) h → ⊥)

-- a member of the loop of line h: the head, or a reachable line that comes round to it
abbrev pub IsMember : List Arc → ℕ → ℕ → Type 0
IsMember arcs h k = IsReached arcs k × ((k ≡ h) ⊎ ComesRound arcs h k)

abbrev pub kind_at : List Node → ℕ → Option NodeKind
kind_at nodes k = kind_in (slice_get nodes k)
  where
    kind_in : Option Node → Option NodeKind
    kind_in None = None
    kind_in (Some n) = Some n.kind

abbrev pub IsAssertion : List Node → ℕ → Type 0
IsAssertion nodes k = kind_at nodes k ≡ Some kind.Assertion

-- the assertions of a loop begin at an ASSERT that is the head, or behind a head that does nothing: LOOP, LABEL, SKIP or ENDIF
abbrev pub BeginsAt : List Node → ℕ → ℕ → Type 0
BeginsAt nodes h start = (IsAssertion nodes h × (start ≡ h)) ⊎ ((kind_at nodes h ≡ Some kind.Plain) × (start ≡ h + 1))

-- line k is a leading assertion of the loop of line h: all lines from the first on to it are assertions
abbrev pub IsLeading : List Node → ℕ → ℕ → Type 0
IsLeading nodes h k = (start : ℕ) × BeginsAt nodes h start × (start ≤ k) × ((j : ℕ) → start ≤ j → j ≤ k → IsAssertion nodes j)
