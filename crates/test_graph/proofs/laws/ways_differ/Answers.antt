use Rattle.test_graph.proofs.Apart.{apart}
use Rattle.test_graph.proofs.laws.ways_differ.Goals as goal

pub returns : goal.returns
returns c = apart
