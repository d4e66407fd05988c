use Rattle.flow_graph.proofs.LineArcs.{rows_stay_below}
use Rattle.graph_cases.proofs.rows.paths_in.Goals as goal

pub paths_from-requires-clause-rows : goal.paths_from-requires-clause-rows
paths_from-requires-clause-rows c =
    rows_stay_below c.in_ok-rows.rows c.as_slice.result.now c.args.graph.now.arcs _ c.as_slice.ensures c.in_ok-rows.ensures.rows
    c.requires.arcs c.in_ok-rows.ensures.size
