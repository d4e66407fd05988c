use Rattle.std.proofs.Common.{take, Ok}
use Rattle.il_edge.specs.declared.device.Failed.{Failed}
use Rattle.form_text.specs.Lists.{numbered}
use Rattle.form_text.specs.Pieces.{Puts}
use Rattle.malpas_literals.specs.Listing.{literal_line}
use Rattle.malpas_literals.proofs.listing.put_literals.Given as goal

abbrev pub invariant-loop-at : goal.invariant-loop-at
invariant-loop-at g l = Puts {E = Failed} g.K.Sink.held g.K.Sink.settled g.K.Sink.faults l.fn.sink l.sink (Ok (tt {0})) (numbered (literal_line l.places) 0 (take l.at l.literals))
