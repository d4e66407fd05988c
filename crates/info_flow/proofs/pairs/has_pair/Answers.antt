use Rattle.flow_graph.specs.Search.{IsMarked}
use Rattle.disjoint_paths.specs.FirstPath.{IsNext}
use Rattle.info_flow.proofs.PairsOfPaths.{pair_told}
use Rattle.info_flow.proofs.pairs.has_pair.Goals as goal

pub returns : goal.returns
returns c =
    rw c.is_some.ensures (pair_told (IsNext c.args.rows.now) (IsMarked c.args.marks.now) c.args.line c.in_ok-pair.pair c.in_ok-pair.ensures.some c.in_ok-pair.ensures.none)
