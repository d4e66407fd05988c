use Rattle.call_sound.proofs.Formed.{accepted_are_checked}
use Rattle.call_sound.proofs.laws.accepted_are_checked.Goals as goal

pub returns : goal.returns
returns c = accepted_are_checked
