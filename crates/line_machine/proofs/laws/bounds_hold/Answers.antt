use Rattle.il_core.proofs.BoundsHold.{bounds-hold}
use Rattle.line_machine.proofs.laws.bounds_hold.Goals as goal

pub returns : goal.returns
returns c = λ places s e v r t h. let w = bounds-hold places s r e v t h in (w.low, w.high)
