use Rattle.std.proofs.Common.{◌≡◌, map, take}
use Rattle.data_use.specs.Sums.{ends_along}
use Rattle.data_use.proofs.routes.ends_along.Given as goal

-- the first arcs have their ends
abbrev pub invariant-loop-arc : goal.invariant-loop-arc
invariant-loop-arc l = l.ends.items ≡ map ends_along (take l.arc-index l.arcs)
