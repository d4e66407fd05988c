use Rattle.threat_certs.proofs.Summed.{Summing}
use Rattle.threat_certs.specs.Adding.{total_in}
use Rattle.threat_certs.specs.Measuring.{on_sides}
use Rattle.threat_certs.proofs.summing.sum_of.Given as goal

abbrev pub invariant-loop-left : goal.invariant-loop-left
invariant-loop-left l = Summing l.subject.places.now l.subject.pc (on_sides l.subject.literals.now l.sides) l.shares l.left (total_in l.sum)

abbrev pub decreases-loop-left : goal.decreases-loop-left
decreases-loop-left l = l.left
