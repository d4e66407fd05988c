use Rattle.std.proofs.Common.{length}
use Rattle.threat_certs.proofs.refuting.+search.Given as goal

abbrev pub decreases-search : goal.decreases-search
decreases-search l = length l.forks.now
