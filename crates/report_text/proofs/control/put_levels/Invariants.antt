use Rattle.std.proofs.Common.{take}
use Rattle.form_text.specs.Lists.{numbered}
use Rattle.report_text.specs.Sections.{level_text}
use Rattle.form_text.proofs.Written.{IsSoFar}
use Rattle.report_text.proofs.control.put_levels.Given as goal

abbrev pub invariant-loop-at : goal.invariant-loop-at
invariant-loop-at g l =
    IsSoFar (g.K.Sink.held l.fn.sink) (g.K.Sink.held l.sink) (g.K.Sink.settled l.fn.sink) (g.K.Sink.settled l.sink)
    (g.K.Sink.faults l.fn.sink) (g.K.Sink.faults l.sink) (numbered level_text 0 (take l.at l.levels))
