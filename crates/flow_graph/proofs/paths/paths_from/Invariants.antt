use Rattle.std.proofs.Common.{◌+◌, [], ◌∷◌, length}
use Rattle.std.specs.Prelude.{not}
use Rattle.std.specs.List.{count_by}
use Rattle.flow_graph.proofs.Spreading.{Searching}
use Rattle.flow_graph.proofs.Tracks.{Tracking}
use Rattle.flow_graph.proofs.paths.paths_from.Given as goal

abbrev pub invariant-loop-at : goal.invariant-loop-at
invariant-loop-at l = record {
  searching : Searching l.rows l.blocked (l.start ∷ []) l.marked.items l.work.items;
  tracking : Tracking l.rows l.blocked l.start l.marked.items l.paths.items;
}

abbrev pub decreases-loop-at : goal.decreases-loop-at
decreases-loop-at l = count_by not l.marked.items + length l.work.items
