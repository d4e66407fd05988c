use Rattle.region_paths.specs.PathTree.{long_paths}
use Rattle.region_paths.proofs.Orders.{one_listing}
use Rattle.compliance.specs.Threat.{IsThreat}
use Rattle.compliance.proofs.Listings.{threats_listed}
use Rattle.compliance.proofs.laws.threats_are_listed.Goals as goal

pub returns : goal.returns
returns c = λ p loops pc b.
    let t = threats_listed p loops pc (long_paths p loops pc) c.ways_go_along_arcs.ensures b (c.paths_are_listed.ensures p loops pc b).long in
    (t.0, t.1, λ o k. one_listing (IsThreat p loops pc) o t.0 k t.1)
