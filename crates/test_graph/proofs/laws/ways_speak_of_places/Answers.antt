use Rattle.test_graph.proofs.Speaking.{way-speaks}
use Rattle.test_graph.proofs.laws.ways_speak_of_places.Goals as goal

pub returns : goal.returns
returns c = way-speaks
