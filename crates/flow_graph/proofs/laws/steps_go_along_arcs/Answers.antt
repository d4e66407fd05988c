use Rattle.il_core.proofs.StepKeeps.{step-kept}
use Rattle.flow_graph.proofs.LineArcs.{Joins-from_HasArc}
use Rattle.flow_graph.proofs.laws.steps_go_along_arcs.Goals as goal

pub returns : goal.returns
returns c = λ p pc s q k r e. Joins-from_HasArc p pc q ((step-kept p pc s k r).along q e)
