use Rattle.path_inputs.proofs.Cores.{least-meets}
use Rattle.path_inputs.proofs.laws.least_meets_core.Goals as goal

pub returns : goal.returns
returns c = least-meets
