use Rattle.std.proofs.Common.{◌↔◌, ◌⊎◌, ◌≡◌, ◌<◌, length}
use Rattle.il_core.specs.LineGraph.{IsIn}
use Rattle.flow_graph.specs.Search.{IsMarked}
use Rattle.flow_graph.specs.declared.graph.Arc.{Arc}
use Rattle.data_use.proofs.routes.add_exits.Given as goal

-- the first lines have their exits, where they are marked
abbrev pub invariant-loop-line : goal.invariant-loop-line
invariant-loop-line l =
    record {
      each : (a : Arc) → IsIn l.routes.items a ↔ (IsIn l.fn.routes.items a ⊎ ((a.tail < l.line) × (a.head ≡ length l.marks) × IsMarked l.marks a.tail));
    }
