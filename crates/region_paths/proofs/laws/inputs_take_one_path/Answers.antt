use Rattle.region_paths.proofs.Listed.{takes_paths}
use Rattle.region_paths.proofs.laws.inputs_take_one_path.Goals as goal

pub returns : goal.returns
returns c = λ p loops pc s b r. takes_paths p loops pc s c.ways_are_steps.ensures c.ways_go_along_arcs.ensures b r
