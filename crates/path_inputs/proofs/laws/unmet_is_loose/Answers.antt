use Rattle.path_inputs.proofs.Cores.{unmet-loose}
use Rattle.path_inputs.proofs.laws.unmet_is_loose.Goals as goal

pub returns : goal.returns
returns c = unmet-loose
