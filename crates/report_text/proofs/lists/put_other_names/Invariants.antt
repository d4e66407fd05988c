use Rattle.std.proofs.Common.{take, codes, ◌++◌}
use Rattle.std.specs.List.{flat_map}
use Rattle.form_text.specs.Lists.{place_at}
use Rattle.form_text.proofs.Written.{IsSoFar}
use Rattle.report_text.proofs.lists.put_other_names.Given as goal

abbrev pub invariant-loop-at : goal.invariant-loop-at
invariant-loop-at g l =
    IsSoFar (g.K.Sink.held l.fn.sink) (g.K.Sink.held l.sink) (g.K.Sink.settled l.fn.sink) (g.K.Sink.settled l.sink)
    (g.K.Sink.faults l.fn.sink) (g.K.Sink.faults l.sink) (flat_map (λ n. codes " " ++ place_at l.places n) (take l.at-index l.numbers))
