use Rattle.call_sound.proofs.Formed.{uncalled_are_checked}
use Rattle.call_sound.proofs.laws.uncalled_are_checked.Goals as goal

pub returns : goal.returns
returns c = uncalled_are_checked
