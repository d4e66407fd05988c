use Rattle.std.proofs.Common.{arith}
use Rattle.regular_algebra.proofs.Uses.{name-sides, name-star}
use Rattle.path_expr.proofs.definitions.mark_sides.Goals as goal

pub mark-requires : goal.mark-requires
mark-requires c = c.requires _ (name-star _ _ c.in-Star.is)

pub mark-requires-in-Plus : goal.mark-requires-in-Plus
mark-requires-in-Plus c = c.requires _ (name-sides _ _ _ c.in-Plus.is).0

pub mark-requires-in-Plus-2 : goal.mark-requires-in-Plus-2
mark-requires-in-Plus-2 c = omega (arith, c.requires _ (name-sides _ _ _ c.in-Plus.is).1, c.mark-in-Plus.auto.used)
