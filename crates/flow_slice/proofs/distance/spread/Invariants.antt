use Rattle.std.proofs.Common.{take}
use Rattle.il_core.specs.LineGraph.{IsIn}
use Rattle.flow_slice.specs.Layer.{Spread}
use Rattle.flow_slice.proofs.distance.spread.Given as goal

abbrev pub invariant-loop-line : goal.invariant-loop-line
invariant-loop-line l = Spread (IsIn (take l.line-index l.row)) l.distance l.initial.distances.items l.distances.items l.initial.layer.items l.layer.items
