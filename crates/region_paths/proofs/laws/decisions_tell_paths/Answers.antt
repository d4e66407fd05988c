use Rattle.region_paths.proofs.Listed.{one_each}
use Rattle.region_paths.proofs.laws.decisions_tell_paths.Goals as goal

pub returns : goal.returns
returns c = λ p loops pc b. one_each p loops pc c.ways_go_along_arcs.ensures b
