use Rattle.std.proofs.Common.{◌+◌, length}
use Rattle.std.specs.Prelude.{not}
use Rattle.std.specs.List.{count_by}
use Rattle.flow_graph.proofs.Spreading.{Searching}
use Rattle.flow_graph.proofs.searching.search.Given as goal

abbrev pub invariant-loop-at : goal.invariant-loop-at
invariant-loop-at l = Searching l.rows l.blocked l.seeds l.marked.items l.work.items

abbrev pub decreases-loop-at : goal.decreases-loop-at
decreases-loop-at l = count_by not l.marked.items + length l.work.items
