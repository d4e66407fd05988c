use Rattle.test_graph.proofs.Steps.{way-step}
use Rattle.test_graph.proofs.laws.ways_are_steps.Goals as goal

pub returns : goal.returns
returns c = way-step
