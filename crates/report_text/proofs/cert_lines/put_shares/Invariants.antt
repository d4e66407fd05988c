use Rattle.std.proofs.Common.{take, Ok}
use Rattle.il_edge.specs.declared.device.Failed.{Failed}
use Rattle.std.specs.List.{flat_map}
use Rattle.form_text.specs.Pieces.{Puts}
use Rattle.report_text.proofs.CertLines.{share_line}
use Rattle.report_text.proofs.cert_lines.put_shares.Given as goal

abbrev pub invariant-loop-share : goal.invariant-loop-share
invariant-loop-share g l = Puts {E = Failed} g.K.Sink.held g.K.Sink.settled g.K.Sink.faults l.fn.sink l.sink (Ok (tt {0})) (flat_map share_line (take l.share-index l.shares))
