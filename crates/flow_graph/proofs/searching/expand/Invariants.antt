use Rattle.std.proofs.Common.{take}
use Rattle.flow_graph.specs.Expansion.{Expansion}
use Rattle.flow_graph.proofs.searching.expand.Given as goal

abbrev pub invariant-loop-at : goal.invariant-loop-at
invariant-loop-at l = Expansion (take l.at-index l.row) l.blocked l.initial.marked.items l.initial.work.items l.marked.items l.work.items
