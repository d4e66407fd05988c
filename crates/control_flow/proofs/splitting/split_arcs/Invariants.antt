use Rattle.std.proofs.Common.{◌<◌, length}
use Rattle.control_flow.specs.Forward.{AreRows, AreLoopsBelow, IsForward}
use Rattle.control_flow.proofs.splitting.split_arcs.Given as goal

abbrev pub invariant-loop-line : goal.invariant-loop-line
invariant-loop-line l = record {
  loops : AreLoopsBelow l.graph l.line l.loops;
  forward : AreRows (length l.graph.nodes) (λ u v. IsForward l.graph.arcs u v × (v < l.line)) l.forward.items;
}
