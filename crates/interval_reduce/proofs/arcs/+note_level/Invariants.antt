use Rattle.std.proofs.Common.{length}
use Rattle.interval_reduce.proofs.arcs.+note_level.Given as goal

abbrev pub decreases-note_level : goal.decreases-note_level
decreases-note_level l = length l.level.now
