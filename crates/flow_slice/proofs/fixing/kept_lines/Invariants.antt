use Rattle.flow_graph.specs.Search.{IsMarked}
use Rattle.info_flow.proofs.Listing.{ListsBelow}
use Rattle.flow_slice.proofs.fixing.kept_lines.Given as goal

abbrev pub invariant-loop-line : goal.invariant-loop-line
invariant-loop-line l = ListsBelow (λ k. IsMarked l.reached k × IsMarked l.marks k) l.line l.kept
