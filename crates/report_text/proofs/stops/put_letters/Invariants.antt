use Rattle.std.proofs.Common.{take, Ok}
use Rattle.il_edge.specs.declared.device.Failed.{Failed}
use Rattle.std.specs.List.{flat_map}
use Rattle.form_text.specs.Pieces.{Puts}
use Rattle.report_text.specs.Path.{letter}
use Rattle.report_text.proofs.stops.put_letters.Given as goal

abbrev pub invariant-loop-decision : goal.invariant-loop-decision
invariant-loop-decision g l = Puts {E = Failed} g.K.Sink.held g.K.Sink.settled g.K.Sink.faults l.fn.sink l.sink (Ok (tt {0})) (flat_map letter (take l.decision-index l.path))
