use Rattle.flow_graph.proofs.LineArcs.{IsPath-from_walk, IsWalk-from_path}
use Rattle.flow_graph.proofs.laws.walks_are_paths.Goals as goal

pub returns : goal.returns
returns c = λ p a lines b. (IsPath-from_walk p a lines b, IsWalk-from_path p a lines b)
