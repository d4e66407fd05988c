use Rattle.flow_graph.specs.Search.{IsMarked}
use Rattle.info_flow.proofs.Listing.{ListsBelow}
use Rattle.flow_slice.proofs.distance.marked_lines.Given as goal

abbrev pub invariant-loop-line : goal.invariant-loop-line
invariant-loop-line l = ListsBelow (IsMarked l.marks) l.line l.lines
