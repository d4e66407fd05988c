use Rattle.call_free.proofs.Itself.{stands_for_itself}
use Rattle.call_free.proofs.laws.stands_for_itself.Goals as goal

pub returns : goal.returns
returns c = stands_for_itself
