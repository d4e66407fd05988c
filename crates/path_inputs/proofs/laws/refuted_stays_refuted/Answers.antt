use Rattle.path_inputs.proofs.Cores.{refuted-more}
use Rattle.path_inputs.proofs.laws.refuted_stays_refuted.Goals as goal

pub returns : goal.returns
returns c = refuted-more
