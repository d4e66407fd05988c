use Rattle.control_flow.proofs.Listing.{both_ways}
use Rattle.control_flow.proofs.Ways.{around_found}
use Rattle.control_flow.proofs.rows.reached_around.Goals as goal

pub returns-clause-exact : goal.returns-clause-exact
returns-clause-exact c k = both_ways (c.in_ok-marks.ensures.exact k)
    (around_found _ c.args.graph.now.arcs c.args.heads.now c.as_slice.result.now c.in_ok-blocked.blocked.items c.args.line c.requires.heads c.as_slice.ensures.value
    c.in_ok-blocked.ensures.exact k)
