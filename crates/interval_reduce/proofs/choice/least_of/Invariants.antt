use Rattle.il_core.specs.LineGraph.{IsIn}
use Rattle.interval_reduce.proofs.Choosing.{IsLeastBefore}
use Rattle.interval_reduce.proofs.choice.least_of.Given as goal

abbrev pub invariant-loop-node : goal.invariant-loop-node
invariant-loop-node l = IsLeastBefore (IsIn l.border) l.border l.node-index l.least
