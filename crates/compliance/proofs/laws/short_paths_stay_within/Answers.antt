use Rattle.compliance.specs.Opening.{opening}
use Rattle.compliance.proofs.ShortPaths.{within_few, short_within}
use Rattle.compliance.proofs.laws.short_paths_stay_within.Goals as goal

pub returns : goal.returns
returns c = λ p loops pc ws h k l. (within_few p (opening loops pc) ws, short_within p loops pc ws h c.ways_go_along_arcs.ensures k l)
