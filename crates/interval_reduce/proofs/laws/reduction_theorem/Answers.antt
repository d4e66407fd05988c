use Rattle.interval_reduce.proofs.ReductionGraph.{reduces}
use Rattle.interval_reduce.proofs.laws.reduction_theorem.Goals as goal

pub returns : goal.returns
returns c = reduces
