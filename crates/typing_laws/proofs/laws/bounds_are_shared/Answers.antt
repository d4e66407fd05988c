use Rattle.typing_laws.proofs.Bounding.{bounds_shared}
use Rattle.typing_laws.proofs.laws.bounds_are_shared.Goals as goal

pub returns : goal.returns
returns c = bounds_shared
