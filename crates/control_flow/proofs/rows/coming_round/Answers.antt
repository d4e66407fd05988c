use Rattle.control_flow.proofs.Listing.{both_ways}
use Rattle.control_flow.proofs.Ways.{round_found}
use Rattle.control_flow.proofs.rows.coming_round.Goals as goal

pub returns-clause-exact : goal.returns-clause-exact
returns-clause-exact c k = both_ways (c.in_ok-marks.ensures.exact k)
    (round_found _ c.args.graph.now.arcs c.args.tails.now c.as_slice.result.now c.in_ok-blocked.blocked.items c.args.head c.args.back.now c.requires.tails
    c.as_slice.ensures.value c.in_ok-blocked.ensures.exact c.requires.back k)
