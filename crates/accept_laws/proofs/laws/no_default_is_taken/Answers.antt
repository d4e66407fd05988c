use Rattle.accept_laws.proofs.NoDefault.{no_default_is_taken}
use Rattle.accept_laws.proofs.laws.no_default_is_taken.Goals as goal

pub returns : goal.returns
returns c = no_default_is_taken
