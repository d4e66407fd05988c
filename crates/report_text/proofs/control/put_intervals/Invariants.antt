use Rattle.std.proofs.Common.{take}
use Rattle.std.specs.List.{flat_map}
use Rattle.report_text.specs.Sections.{interval_text}
use Rattle.form_text.proofs.Written.{IsSoFar}
use Rattle.report_text.proofs.control.put_intervals.Given as goal

abbrev pub invariant-loop-interval : goal.invariant-loop-interval
invariant-loop-interval g l =
    IsSoFar (g.K.Sink.held l.fn.sink) (g.K.Sink.held l.sink) (g.K.Sink.settled l.fn.sink) (g.K.Sink.settled l.sink)
    (g.K.Sink.faults l.fn.sink) (g.K.Sink.faults l.sink) (flat_map interval_text (take l.interval-index l.intervals))
