use Rattle.std.proofs.Common.{take}
use Rattle.std.specs.List.{flat_map}
use Rattle.report_text.specs.Sections.{use_text}
use Rattle.form_text.proofs.Written.{IsSoFar}
use Rattle.report_text.proofs.usage.put_uses.Given as goal

abbrev pub invariant-loop-row : goal.invariant-loop-row
invariant-loop-row g l =
    IsSoFar (g.K.Sink.held l.fn.sink) (g.K.Sink.held l.sink) (g.K.Sink.settled l.fn.sink) (g.K.Sink.settled l.sink)
    (g.K.Sink.faults l.fn.sink) (g.K.Sink.faults l.sink) (flat_map (use_text l.places) (take l.row-index l.rows))
