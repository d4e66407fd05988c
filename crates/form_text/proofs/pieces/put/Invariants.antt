use Rattle.std.proofs.Common.{take, Ok}
use Rattle.il_edge.specs.declared.device.Failed.{Failed}
use Rattle.form_text.specs.Pieces.{joined, Puts}
use Rattle.form_text.proofs.pieces.put.Given as goal

abbrev pub invariant-loop-piece : goal.invariant-loop-piece
invariant-loop-piece g l = Puts {E = Failed} g.K.Sink.held g.K.Sink.settled g.K.Sink.faults l.fn.sink l.sink (Ok (tt {0})) (joined (take l.piece-index l.pieces))
