use Rattle.test_graph.proofs.OneWay.{some_way}
use Rattle.test_graph.proofs.laws.some_way.Goals as goal

pub returns : goal.returns
returns c = some_way
