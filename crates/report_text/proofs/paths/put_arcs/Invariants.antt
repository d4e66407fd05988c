use Rattle.std.proofs.Common.{take}
use Rattle.form_text.specs.Lists.{numbered}
use Rattle.report_text.specs.Sections.{arc_text}
use Rattle.form_text.proofs.Written.{IsSoFar}
use Rattle.report_text.proofs.paths.put_arcs.Given as goal

abbrev pub invariant-loop-at : goal.invariant-loop-at
invariant-loop-at g l =
    IsSoFar (g.K.Sink.held l.fn.sink) (g.K.Sink.held l.sink) (g.K.Sink.settled l.fn.sink) (g.K.Sink.settled l.sink)
    (g.K.Sink.faults l.fn.sink) (g.K.Sink.faults l.sink) (numbered arc_text 1 (take l.at l.arcs))
