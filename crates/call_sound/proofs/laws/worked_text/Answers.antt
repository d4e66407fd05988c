use Rattle.call_sound.proofs.Worked.{worked_text}
use Rattle.call_sound.proofs.laws.worked_text.Goals as goal

pub returns : goal.returns
returns c = worked_text
