use Rattle.std.proofs.Common.{take, Ok}
use Rattle.il_edge.specs.declared.device.Failed.{Failed}
use Rattle.form_text.specs.Lists.{numbered, place_at}
use Rattle.form_text.specs.Pieces.{Puts}
use Rattle.form_text.proofs.PartTexts.{parts_text}
use Rattle.form_text.proofs.forms.+forms.Given as goal

-- the parts so far are written
abbrev pub invariant-put_normal-loop-at : goal.invariant-put_normal-loop-at
invariant-put_normal-loop-at g l =
    Puts {E = Failed} g.K.Sink.held g.K.Sink.settled g.K.Sink.faults l.fn.sink l.sink (Ok (tt {0})) (numbered (parts_text (place_at l.places)) 0 (take l.at l.parts))
