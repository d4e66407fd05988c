use Rattle.std.proofs.Common.{◌≡◌, replicate}
use Rattle.disjoint_paths.specs.declared.widening.Role.TheVariants.{Far}
use Rattle.disjoint_paths.proofs.start.far_roles.Given as goal

abbrev pub invariant-loop-line : goal.invariant-loop-line
invariant-loop-line l = l.roles.items ≡ replicate l._line Far
