use Rattle.interval_reduce.proofs.Descending.{Descending, left}
use Rattle.interval_reduce.proofs.levels.levels_from.Given as goal

abbrev pub invariant-loop-arcs : goal.invariant-loop-arcs
invariant-loop-arcs l = Descending l.count l.fn.first l.arcs l.levels

abbrev pub decreases-loop-arcs : goal.decreases-loop-arcs
decreases-loop-arcs l = left l.count l.levels
