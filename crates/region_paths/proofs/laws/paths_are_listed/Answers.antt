use Rattle.region_paths.proofs.Listed.{are_listed}
use Rattle.region_paths.proofs.laws.paths_are_listed.Goals as goal

pub returns : goal.returns
returns c = λ p loops pc b. are_listed p loops pc c.ways_go_along_arcs.ensures b
