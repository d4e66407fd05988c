use Rattle.std.proofs.Common.{ℕ, take}
use Rattle.il_core.specs.LineGraph.{IsIn}
use Rattle.flow_graph.specs.Search.{IsMarked}
use Rattle.interval_reduce.proofs.choice.are_marked.Given as goal

abbrev pub invariant-loop-node : goal.invariant-loop-node
invariant-loop-node l = (u : ℕ) → IsIn (take l.node-index l.row) u → IsMarked l.marks u
