use Rattle.std.proofs.Common.{length}
use Rattle.disjoint_paths.specs.Roles.{ArePlaced}
use Rattle.disjoint_paths.proofs.start.first_roles.Given as goal

abbrev pub invariant-loop-place : goal.invariant-loop-place
invariant-loop-place l = ArePlaced l.asked.path.now (length l.asked.rows.now) l.place l.roles.items
