use Rattle.std.proofs.Common.{take, Ok}
use Rattle.il_edge.specs.declared.device.Failed.{Failed}
use Rattle.std.specs.List.{flat_map}
use Rattle.cert_text.specs.Line.{text_of}
use Rattle.cert_text.specs.Text.{cert_lines, named_of}
use Rattle.form_text.specs.Pieces.{Puts}
use Rattle.report_text.proofs.cert_lines.put_each_cert.Given as goal

abbrev pub invariant-loop-cert : goal.invariant-loop-cert
invariant-loop-cert g l = Puts {E = Failed} g.K.Sink.held g.K.Sink.settled g.K.Sink.faults l.fn.sink l.sink (Ok (tt {0})) (flat_map (λ c. text_of (cert_lines (named_of c))) (take l.cert-index l.certs))
