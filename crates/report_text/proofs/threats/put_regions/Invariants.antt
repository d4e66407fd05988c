use Rattle.report_text.proofs.Regions.{AreWritten}
use Rattle.report_text.proofs.threats.put_regions.Given as goal

abbrev pub invariant-loop-table : goal.invariant-loop-table
invariant-loop-table g l =
    AreWritten g.K.Sink.held g.K.Sink.settled g.K.Sink.faults l.fn.sink l.sink l.places l.tables l.threats l.table-index l.before
