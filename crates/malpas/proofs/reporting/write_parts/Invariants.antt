use Rattle.std.proofs.Common.{◌≡◌, []}
use Rattle.il_inline.specs.Expanded.{whole_of}
use Rattle.malpas.proofs.Sent.{AreSoFar}
use Rattle.malpas.proofs.reporting.write_parts.Given as goal

abbrev pub invariant-loop-number : goal.invariant-loop-number
invariant-loop-number g l = record {
  so_far : AreSoFar l.selection (g.K.Sink.held l.fn.sink) (g.K.Sink.held l.sink) (g.K.Sink.settled l.sink) (g.K.Sink.faults l.fn.sink) (g.K.Sink.faults l.sink)
      l.input.certs (whole_of l.input.text) l.number l.report;
  untouched : l.report.procs ≡ [] → l.sink ≡ l.fn.sink;
}
