use Rattle.std.proofs.Common.{ℕ, take}
use Rattle.std.specs.Prelude.{◌↔◌, slice_index}
use Rattle.flow_graph.specs.Graph.{Joins}
use Rattle.interval_reduce.specs.Arcs.{IsCarried}
use Rattle.interval_reduce.proofs.arcs.carried_arcs.Given as goal

abbrev pub invariant-loop-arc : goal.invariant-loop-arc
invariant-loop-arc l = (a b : ℕ) → Joins l.carried a b ↔ IsCarried (slice_index l.owners) (take l.arc-index l.arcs) a b
