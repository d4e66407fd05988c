use Rattle.std.proofs.Common.{take}
use Rattle.flow_graph.specs.Paths.{Lengthened}
use Rattle.flow_graph.proofs.paths.lengthen.Given as goal

abbrev pub invariant-loop-line : goal.invariant-loop-line
invariant-loop-line l = Lengthened (take l.line-index l.row) l.marked l.at l.initial.paths.items l.paths.items
