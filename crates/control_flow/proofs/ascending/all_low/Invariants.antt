use Rattle.std.proofs.Common.{ℕ, ◌<◌, take}
use Rattle.il_core.specs.LineGraph.{IsIn}
use Rattle.flow_graph.specs.Search.{IsMarked}
use Rattle.control_flow.proofs.ascending.all_low.Given as goal

abbrev pub invariant-loop-at : goal.invariant-loop-at
invariant-loop-at l = (u : ℕ) → IsIn (take l.at-index l.row) u → (u < l.line) × IsMarked l.marks u
