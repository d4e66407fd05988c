use Rattle.call_sound.proofs.Frame.{texts_are_framed}
use Rattle.call_sound.proofs.laws.texts_are_framed.Goals as goal

pub returns : goal.returns
returns c = texts_are_framed
