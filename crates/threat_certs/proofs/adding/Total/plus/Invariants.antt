use Rattle.std.proofs.Common.{◌-◌, ◌+◌, length}
use Rattle.threat_certs.proofs.Counted.{Merging}
use Rattle.threat_certs.proofs.adding.Total.plus.Given as goal

abbrev pub invariant-loop-i : goal.invariant-loop-i
invariant-loop-i l = Merging l.parts.items l.self.parts.items l.other.parts.items l.i l.j l.self.constant l.other.constant

abbrev pub decreases-loop-i : goal.decreases-loop-i
decreases-loop-i l = (length l.self.parts.items - l.i) + (length l.other.parts.items - l.j)
