use Rattle.accept_laws.proofs.DecidedTexts.{decided}
use Rattle.accept_laws.proofs.laws.decided.Goals as goal

pub returns : goal.returns
returns c = decided
