use Rattle.std.proofs.Common.{◌≡◌, ◌+◌, length}
use Rattle.std.specs.Prelude.{is_none}
use Rattle.std.specs.List.{count_by}
use Rattle.info_flow.specs.Growth.{is_relevant}
use Rattle.flow_slice.proofs.Layers.{Layered}
use Rattle.flow_slice.proofs.distance.distances.Given as goal

abbrev pub invariant-loop-alloc : goal.invariant-loop-alloc
invariant-loop-alloc l = record {
  size : length l.distances.items ≡ length l.graph.nodes;
  layered : Layered l.graph.arcs (is_relevant l.marks) l.distance l.distances.items l.layer.items;
}

abbrev pub decreases-loop-alloc : goal.decreases-loop-alloc
decreases-loop-alloc l = count_by is_none l.distances.items + length l.layer.items
