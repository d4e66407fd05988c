use Rattle.std.proofs.Common.{length}
use Rattle.il_edge.proofs.Calls.{IsWritten}
use Rattle.il_edge.proofs.whole.write_all.Given as goal

abbrev pub invariant-loop-rest : goal.invariant-loop-rest
invariant-loop-rest g l =
    IsWritten (g.K.Sink.held l.fn.sink) (g.K.Sink.held l.sink) (g.K.Sink.settled l.fn.sink) (g.K.Sink.settled l.sink)
    (g.K.Sink.faults l.fn.sink) (g.K.Sink.faults l.sink) l.bytes l.rest

abbrev pub decreases-loop-rest : goal.decreases-loop-rest
decreases-loop-rest g l = length l.rest
