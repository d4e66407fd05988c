-- The derivation of a graph: its levels, which end in one interval exactly where the graph is reducible, and the order in which its
-- nodes are taken into intervals.
use Rattle.std.specs.Prelude.{◌≡◌, ◌↔◌, ℕ, ◌+◌, not, List, [], ◌∷◌, drop, filter, length, nat_eq}
use Rattle.std.specs.List.{flat_map}
use Rattle.flow_graph.specs.Graph.{Joins}
use Rattle.flow_graph.specs.Reached.{IsReached, IsInnerOrder}
use Rattle.flow_graph.specs.declared.graph.FlowGraph.{FlowGraph}
use Rattle.control_flow.specs.Cycle.{IsReducible}
use Rattle.control_flow.specs.declared.control.Shape.{Shape}
use Rattle.control_flow.specs.declared.control.Shape.TheVariants.{Reducible, TwoEntries}
use Rattle.interval_reduce.specs.declared.interval.Interval.{Interval}
use Rattle.interval_reduce.specs.declared.interval.Derivation.{Derivation}
use Rattle.interval_reduce.specs.Level.{AreLevels, last_level}

-- level 0 is the graph of the reachable lines
abbrev pub AreLevelsOf : FlowGraph → List (List Interval) → Type 0
AreLevelsOf g [] = ⊥
AreLevelsOf g (level ∷ rest) = AreLevels (IsReached g.arcs) (λ a b. Joins g.arcs a b × IsReached g.arcs a) level rest

-- the last level has one interval
abbrev pub EndsInOne : List (List Interval) → Type 0
EndsInOne [] = ⊥
EndsInOne (level ∷ rest) = length (last_level level rest) ≡ 1

-- the members of an interval behind its head
abbrev pub taken : Interval → List ℕ
taken i = drop 1 i.members

-- level by level, interval by interval, what is taken, without the last of n lines
abbrev pub order_of : ℕ → List (List Interval) → List ℕ
order_of n levels = filter (λ v. not (nat_eq (v + 1) n)) (flat_map (λ level. flat_map taken level) levels)

-- the order of a graph of n lines: none where it is not reducible
abbrev pub order_by : ℕ → Shape → List (List Interval) → List ℕ
order_by n Reducible levels = order_of n levels
order_by n (TwoEntries e) levels = []

-- the levels and the order of a graph, whose shape is known
pub record IsDerivationOf (g : FlowGraph) (shape : Shape) (d : Derivation) : Type 0 where
  pub levels : AreLevelsOf g d.levels
  pub order : d.order ≡ order_by (length g.nodes) shape d.levels

-- the reduction theorem for one derivation: it ends in one interval exactly where no cycle is twice entered, and the order then has
-- each reachable line but the first and the last exactly once
pub record Reduces (g : FlowGraph) (shape : Shape) (d : Derivation) : Type 0 where
  pub one : EndsInOne d.levels ↔ IsReducible (Joins g.arcs) 0
  pub each_once : shape ≡ Reducible → IsInnerOrder g d.order
