use Rattle.test_graph.proofs.Leaves.{way-along}
use Rattle.test_graph.proofs.laws.ways_go_along_arcs.Goals as goal

pub returns : goal.returns
returns c = way-along
