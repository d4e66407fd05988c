use Rattle.path_expr.proofs.LiveArcs.{LiveBelow}
use Rattle.path_expr.proofs.live.live_arcs.Given as goal

-- the numbers of the first k arcs that leave a marked line
abbrev pub invariant-loop-k : goal.invariant-loop-k
invariant-loop-k l = LiveBelow l.arcs l.marks l.k l.live.items
