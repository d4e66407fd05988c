use Rattle.std.proofs.Common.{◌+◌, ◌*◌, length}
use Rattle.semantic_tables.specs.Walk.{lines_left}
use Rattle.semantic_tables.proofs.walking.+walking.Given as goal

abbrev pub decreases-walk : goal.decreases-walk
decreases-walk l = 2 * (lines_left l.exploration.loops.now l.segment * (length l.exploration.graph.now.nodes + 1) + l.id)

abbrev pub decreases-walk_side : goal.decreases-walk_side
decreases-walk_side l = 2 * (lines_left l.exploration.loops.now l.segment * (length l.exploration.graph.now.nodes + 1) + l.branch.to) + 1
