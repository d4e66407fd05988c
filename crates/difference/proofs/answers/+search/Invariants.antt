use Rattle.std.proofs.Common.{length}
use Rattle.difference.proofs.answers.+search.Given as goal

abbrev pub decreases-search : goal.decreases-search
decreases-search l = length l.splits.now
