use Rattle.std.proofs.Common.{take, []}
use Rattle.flow_slice.specs.Layer.{Spread, IsBehind}
use Rattle.flow_slice.proofs.distance.next_layer.Given as goal

abbrev pub invariant-loop-line : goal.invariant-loop-line
invariant-loop-line l = Spread (IsBehind l.rows (take l.line-index l.layer)) l.distance l.initial.distances.items l.distances.items [] l.next.items
