use Rattle.call_sound.proofs.Whole.{formed_are_checked}
use Rattle.call_sound.proofs.laws.formed_are_checked.Goals as goal

pub returns : goal.returns
returns c = formed_are_checked
