use Rattle.std.proofs.Common.{ℕ, ◌↔◌, take}
use Rattle.il_core.specs.LineGraph.{IsIn}
use Rattle.flow_graph.specs.Search.{IsMarked}
use Rattle.control_flow.proofs.rows.marked_of.Given as goal

abbrev pub invariant-loop-at : goal.invariant-loop-at
invariant-loop-at l = (k : ℕ) → IsIn l.lines k ↔ (IsIn (take l.at-index l.row) k × IsMarked l.marks k)
