use Rattle.std.proofs.Common.{◌≡◌, map, take}
use Rattle.path_expr.specs.Report.{end_at}
use Rattle.path_expr.proofs.live.ends_of.Given as goal

abbrev pub invariant-loop-k : goal.invariant-loop-k
invariant-loop-k l = l.ends.items ≡ map (end_at l.arcs) (take l.k-index l.live)
