use Rattle.std.proofs.Common.{◌≡◌, take}
use Rattle.regular_algebra.specs.Relations.{ends_of}
use Rattle.regular_algebra.proofs.elimination.all_ends.Given as goal

abbrev pub invariant-loop-arc : goal.invariant-loop-arc
invariant-loop-arc g l = l.ends.items ≡ ends_of (take l.arc-index l.arcs)
