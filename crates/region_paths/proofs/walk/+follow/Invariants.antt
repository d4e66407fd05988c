use Rattle.std.proofs.Common.{◌+◌, ◌*◌, length}
use Rattle.region_paths.proofs.walk.+follow.Given as goal

abbrev pub decreases-follow : goal.decreases-follow
decreases-follow l = l.room * (length l.graph.now.nodes + 1) + l.id
