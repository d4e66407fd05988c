use Rattle.std.proofs.Common.{ℕ, take}
use Rattle.std.specs.Prelude.{◌↔◌}
use Rattle.flow_graph.specs.Graph.{Joins}
use Rattle.flow_graph.specs.Search.{IsMarked}
use Rattle.interval_reduce.proofs.arcs.marked_arcs.Given as goal

abbrev pub invariant-loop-arc : goal.invariant-loop-arc
invariant-loop-arc l = (a b : ℕ) → Joins l.marked a b ↔ (Joins (take l.arc-index l.arcs) a b × IsMarked l.marks a)
