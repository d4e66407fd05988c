-- The control structure of a graph: its unreachable and stuck lines, its loops by their heads, and a cycle with two entries where there is one.
use Rattle.std.specs.Prelude.{◌≡◌, ℕ, ◌+◌, ◌<◌, List, map, length, slice_get, Some}
use Rattle.flow_graph.specs.Graph.{Joins}
use Rattle.flow_graph.specs.Search.{Reaches}
use Rattle.flow_graph.specs.Reached.{IsReached, Lists}
use Rattle.flow_graph.specs.declared.graph.FlowGraph.{FlowGraph}
use Rattle.control_flow.specs.Cycle.{IsReducible, ShowsTwoEntries}
use Rattle.control_flow.specs.Loop.{IsHead, IsMember, IsLeading}
use Rattle.control_flow.specs.declared.control.Control.{Control}
use Rattle.control_flow.specs.declared.control.LoopInfo.{LoopInfo}
use Rattle.control_flow.specs.declared.control.Shape.{Shape}
use Rattle.control_flow.specs.declared.control.Shape.TheVariants.{Reducible, TwoEntries}

abbrev pub IsUnreachable : FlowGraph → ℕ → Type 0
IsUnreachable g k = (k < length g.nodes) × (IsReached g.arcs k → ⊥)

-- a reachable line from which the last line is not reached
abbrev pub IsStuck : FlowGraph → ℕ → Type 0
IsStuck g k = IsReached g.arcs k × ((last : ℕ) → last + 1 ≡ length g.nodes → Reaches (Joins g.arcs) k last → ⊥)

-- the loop of a head
pub record IsLoop (g : FlowGraph) (l : LoopInfo) : Type 0 where
  pub members : Lists (IsMember g.arcs l.head) l.members
  pub leading : Lists (IsLeading g.nodes l.head) l.leading

abbrev pub heads_of : List LoopInfo → List ℕ
heads_of loops = map (λ l. l.head) loops

-- the loops of all heads, by their heads
pub record AreLoops (g : FlowGraph) (loops : List LoopInfo) : Type 0 where
  pub heads : Lists (IsHead g.arcs) (heads_of loops)
  pub each : (k : ℕ) (l : LoopInfo) → slice_get loops k ≡ Some l → IsLoop g l

-- reducible exactly where no cycle is twice entered; evidence where one is
abbrev pub IsShape : FlowGraph → Shape → Type 0
IsShape g Reducible = IsReducible (Joins g.arcs) 0
IsShape g (TwoEntries e) = ShowsTwoEntries (Joins g.arcs) 0 e.cycle e.first_path e.second_path

pub record IsControlOf (g : FlowGraph) (c : Control) : Type 0 where
  pub unreachable : Lists (IsUnreachable g) c.unreachable
  pub stuck : Lists (IsStuck g) c.stuck
  pub loops : AreLoops g c.loops
  pub shape : IsShape g c.shape
