use Rattle.std.proofs.Common.{◌*◌, ◌+◌}
use Rattle.threat_certs.proofs.holding.+refuting.Given as goal

abbrev pub decreases-refutes : goal.decreases-refutes
decreases-refutes l = 2 * l.depth

abbrev pub decreases-refutes_on : goal.decreases-refutes_on
decreases-refutes_on l = 2 * l.depth + 1
