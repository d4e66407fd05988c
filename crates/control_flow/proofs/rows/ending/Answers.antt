use Rattle.std.proofs.Common.{◌≡◌, ◌-◌, length, arith}
use Rattle.control_flow.proofs.Listing.{both_ways}
use Rattle.control_flow.proofs.Ways.{ending_found}
use Rattle.control_flow.proofs.rows.ending.Goals as goal

pub returns-clause-exact : goal.returns-clause-exact
returns-clause-exact c k last e =
    let s = c.requires.tails.size in
    let same : length c.args.tails.now - 1 ≡ last = omega (arith, s, e) in
    both_ways (c.in_ok-marks.ensures.exact k)
    (rw same (ending_found _ c.args.graph.now.arcs c.args.tails.now c.as_slice.result.now c.in_ok-blocked.blocked.items last c.requires.tails c.as_slice.ensures.value
    c.in_ok-blocked.ensures.exact k))
