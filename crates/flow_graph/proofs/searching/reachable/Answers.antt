use Rattle.std.proofs.Common.{◌∙◌}
use Rattle.flow_graph.proofs.LineArcs.{rows_stay_below, reached_from_start}
use Rattle.flow_graph.proofs.searching.reachable.Goals as goal

pub search-requires-clause-rows : goal.search-requires-clause-rows
search-requires-clause-rows c =
    rows_stay_below c.in_ok-rows.rows c.as_slice.result.now c.args.graph.now.arcs _ c.as_slice.ensures c.in_ok-rows.ensures.rows c.requires.arcs c.in_ok-rows.ensures.size

pub returns-clause-exact : goal.returns-clause-exact
returns-clause-exact c k =
    let found = reached_from_start c.in_ok-rows.rows c.as_slice.result.now c.as_slice-2.result.now c.args.graph.now.arcs _ c.as_slice.ensures
    (c.as_slice-2.ensures.value ∙ c.in_ok-blocked.ensures) c.in_ok-rows.ensures.rows k in
    let marks = c.in_ok-marks.ensures.exact k in
    ((λ m. found.0 (marks.0 m)), λ w. marks.1 (found.1 w))
