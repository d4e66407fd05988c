use Rattle.call_free.proofs.Alike.{answers_alike}
use Rattle.call_free.proofs.laws.answers_alike.Goals as goal

pub returns : goal.returns
returns c = answers_alike
