use Rattle.compliance.proofs.NoBadRun.{no_bad_run}
use Rattle.compliance.proofs.laws.unmet_threats_mean_no_bad_run.Goals as goal

pub returns : goal.returns
returns c = λ p loops k regions unmet. no_bad_run p loops c.inputs_take_one_path.ensures c.ways_are_steps.ensures k regions unmet
