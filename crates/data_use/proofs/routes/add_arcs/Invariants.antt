use Rattle.std.proofs.Common.{◌↔◌, ◌⊎◌, take}
use Rattle.il_core.specs.LineGraph.{IsIn}
use Rattle.flow_graph.specs.Search.{IsMarked}
use Rattle.flow_graph.specs.declared.graph.Arc.{Arc}
use Rattle.data_use.proofs.routes.add_arcs.Given as goal

-- those of the first arcs are added whose tail is marked
abbrev pub invariant-loop-arc : goal.invariant-loop-arc
invariant-loop-arc l =
    record { each : (a : Arc) → IsIn l.routes.items a ↔ (IsIn l.fn.routes.items a ⊎ (IsIn (take l.arc-index l.arcs) a × IsMarked l.marks a.tail)) }
