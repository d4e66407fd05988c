use Rattle.std.proofs.Common.{◌-◌, length}
use Rattle.threat_certs.proofs.Compared.{Comparing}
use Rattle.threat_certs.proofs.comparing.+comparing.Given as goal

-- what is left compares as the whole terms do
abbrev pub invariant-compare-loop-at : goal.invariant-compare-loop-at
invariant-compare-loop-at l = Comparing l.parts l.others l.at

abbrev pub decreases-compare-loop-at : goal.decreases-compare-loop-at
decreases-compare-loop-at l = length l.parts - l.at
