use Rattle.std.proofs.Common.{take, Ok}
use Rattle.il_edge.specs.declared.device.Failed.{Failed}
use Rattle.std.specs.List.{flat_map}
use Rattle.form_text.specs.Pieces.{Puts}
use Rattle.report_text.specs.Certificates.{read_text}
use Rattle.report_text.proofs.certificates.put_rows.Given as goal

abbrev pub invariant-loop-row : goal.invariant-loop-row
invariant-loop-row g l = Puts {E = Failed} g.K.Sink.held g.K.Sink.settled g.K.Sink.faults l.fn.sink l.sink (Ok (tt {0})) (flat_map read_text (take l.row-index l.rows))
