use Rattle.std.proofs.Common.{take, Ok}
use Rattle.std.specs.List.{flat_map}
use Rattle.il_edge.specs.declared.device.Failed.{Failed}
use Rattle.form_text.specs.Pieces.{Puts}
use Rattle.malpas_literals.specs.Listing.{procedure_lines}
use Rattle.malpas_literals.proofs.listing.put_procedures.Given as goal

abbrev pub invariant-loop-procedure : goal.invariant-loop-procedure
invariant-loop-procedure g l = Puts {E = Failed} g.K.Sink.held g.K.Sink.settled g.K.Sink.faults l.fn.sink l.sink (Ok (tt {0})) (flat_map procedure_lines (take l.procedure-index l.procedures))
