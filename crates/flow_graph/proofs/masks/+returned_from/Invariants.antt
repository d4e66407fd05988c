use Rattle.std.proofs.Common.{length}
use Rattle.flow_graph.proofs.masks.+returned_from.Given as goal

abbrev pub decreases-returned_from : goal.decreases-returned_from
decreases-returned_from l = length l.places.now
