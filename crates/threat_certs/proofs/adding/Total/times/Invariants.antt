use Rattle.std.proofs.Common.{◌≡◌, ◌++◌, map, drop}
use Rattle.threat_certs.proofs.Counted.{times_coefficient}
use Rattle.threat_certs.proofs.adding.Total.times.Given as goal

abbrev pub invariant-loop-part : goal.invariant-loop-part
invariant-loop-part l = l.parts.items ++ map (times_coefficient l.factor) (drop l.part-index l.self.parts.items) ≡ map (times_coefficient l.factor) l.self.parts.items
