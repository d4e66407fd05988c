use Rattle.std.proofs.Common.{take, codes, ◌++◌}
use Rattle.std.specs.List.{flat_map}
use Rattle.form_text.specs.Lists.{line_text}
use Rattle.form_text.proofs.Written.{IsSoFar}
use Rattle.report_text.proofs.lists.put_other_lines.Given as goal

abbrev pub invariant-loop-line : goal.invariant-loop-line
invariant-loop-line g l =
    IsSoFar (g.K.Sink.held l.fn.sink) (g.K.Sink.held l.sink) (g.K.Sink.settled l.fn.sink) (g.K.Sink.settled l.sink)
    (g.K.Sink.faults l.fn.sink) (g.K.Sink.faults l.sink) (flat_map (λ n. codes " " ++ line_text n) (take l.line-index l.lines))
