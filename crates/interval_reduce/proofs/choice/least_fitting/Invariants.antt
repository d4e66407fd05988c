use Rattle.interval_reduce.specs.Choice.{IsFitting}
use Rattle.interval_reduce.proofs.Choosing.{IsLeastBefore}
use Rattle.interval_reduce.proofs.choice.least_fitting.Given as goal

abbrev pub invariant-loop-node : goal.invariant-loop-node
invariant-loop-node l = IsLeastBefore (IsFitting l.border l.preds l.inside) l.border l.node-index l.least
