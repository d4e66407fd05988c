use Rattle.test_graph.proofs.OneWay.{one_way}
use Rattle.test_graph.proofs.laws.one_way_holds.Goals as goal

pub returns : goal.returns
returns c = one_way
