use Rattle.std.proofs.Common.{◌+◌, ◌*◌, length}
use Rattle.region_paths.proofs.walk.+follow_leading.Given as goal

abbrev pub decreases-follow_leading : goal.decreases-follow_leading
decreases-follow_leading l = length l.left.now * (length l.graph.now.nodes + 1) + l.id
