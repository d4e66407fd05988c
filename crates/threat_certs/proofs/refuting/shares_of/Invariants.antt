use Rattle.std.proofs.Common.{◌≡◌, map, take}
use Rattle.threat_certs.specs.Making.{share_of}
use Rattle.threat_certs.proofs.refuting.shares_of.Given as goal

abbrev pub invariant-loop-edge : goal.invariant-loop-edge
invariant-loop-edge l = l.shares.items ≡ map (share_of l.fn.items) (take l.edge-index l.edges)
