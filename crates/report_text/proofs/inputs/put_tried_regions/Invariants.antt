use Rattle.report_text.proofs.TriedRegions.{AreTried}
use Rattle.report_text.proofs.inputs.put_tried_regions.Given as goal

abbrev pub invariant-loop-table : goal.invariant-loop-table
invariant-loop-table g l =
    AreTried g.K.Sink.held g.K.Sink.settled g.K.Sink.faults l.fn.sink l.sink l.places l.tables l.inputs l.table-index l.left
