use Rattle.control_flow.proofs.Ways.{rows_of_heads}
use Rattle.control_flow.proofs.rows.heads_of.Goals as goal

pub returns : goal.returns
returns c = rows_of_heads _ c.args.graph.now.arcs c.in_ok-rows.rows c.in_ok-rows.ensures.size c.in_ok-rows.ensures.rows
