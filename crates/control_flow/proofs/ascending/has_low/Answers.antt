use Rattle.std.proofs.Common.{get_or}
use Rattle.flow_graph.proofs.Members.{IsIn-get_or}
use Rattle.control_flow.proofs.ascending.has_low.Goals as goal

pub returns-then-is_low : goal.returns-then-is_low
returns-then-is_low c = λ t.
    let p = c.is_low.ensures.0 c.if-is_low.true in
    (get_or c.args.row.now c.loop-at.at-index 0, IsIn-get_or c.args.row.now c.loop-at.at-index 0 c.loop-at-test.true, p.0, p.1)
