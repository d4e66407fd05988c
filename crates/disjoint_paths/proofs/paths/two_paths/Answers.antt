use Rattle.flow_graph.specs.Graph.{Joins}
use Rattle.flow_graph.specs.Search.{IsMarked}
use Rattle.flow_graph.proofs.LineArcs.{rows_stay_below}
use Rattle.disjoint_paths.specs.FirstPath.{IsNext}
use Rattle.disjoint_paths.proofs.Walks.{some_along, none_along, Joins-from_next, next-from_Joins, no_loop}
use Rattle.disjoint_paths.proofs.paths.two_paths.Goals as goal

pub pair_from-requires-clause-rows : goal.pair_from-requires-clause-rows
pair_from-requires-clause-rows c =
    rows_stay_below c.in_ok-rows.rows c.as_slice.result.now c.args.graph.now.arcs _ c.as_slice.ensures c.in_ok-rows.ensures.rows c.requires.formed.arcs c.in_ok-rows.ensures.size

pub pair_from-requires-clause-simple : goal.pair_from-requires-clause-simple
pair_from-requires-clause-simple c =
    no_loop c.in_ok-rows.rows c.as_slice.result.now c.args.graph.now.arcs _ c.as_slice.ensures c.in_ok-rows.ensures.rows c.requires.formed.arcs c.args.tail

pub returns-clause-some : goal.returns-clause-some
returns-clause-some c =
    some_along (IsNext c.as_slice.result.now) (Joins c.args.graph.now.arcs) (IsMarked c.args.targets.now)
    (Joins-from_next c.in_ok-rows.rows c.as_slice.result.now c.args.graph.now.arcs c.as_slice.ensures c.in_ok-rows.ensures.rows) c.args.tail c.in_ok-pair.pair c.in_ok-pair.ensures.some

pub returns-clause-none : goal.returns-clause-none
returns-clause-none c =
    none_along (IsNext c.as_slice.result.now) (Joins c.args.graph.now.arcs) (IsMarked c.args.targets.now)
    (next-from_Joins c.in_ok-rows.rows c.as_slice.result.now c.args.graph.now.arcs c.as_slice.ensures c.in_ok-rows.ensures.rows) c.args.tail c.in_ok-pair.pair c.in_ok-pair.ensures.none
