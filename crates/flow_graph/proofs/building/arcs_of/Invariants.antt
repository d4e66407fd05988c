use Rattle.std.proofs.Common.{◌≡◌, map, ◌++◌, drop}
use Rattle.il_core.specs.Procedure.{instruction_of}
use Rattle.flow_graph.specs.Graph.{arcs_from}
use Rattle.flow_graph.proofs.building.arcs_of.Given as goal

abbrev pub invariant-loop-tail : goal.invariant-loop-tail
invariant-loop-tail l = l.arcs ++ arcs_from l.tail (map instruction_of (drop l.tail l.lines)) ≡ arcs_from 0 (map instruction_of l.lines)
