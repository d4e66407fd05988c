use Rattle.std.proofs.Common.{arith}
use Rattle.regular_algebra.proofs.Uses.{name-sides, name-star}
use Rattle.regular_algebra.proofs.elimination.release_all.Goals as goal

pub release-requires-clause-below : goal.release-requires-clause-below
release-requires-clause-below g c = c.requires.below _ (name-star _ _ c.in-Star.is)

pub release-requires-in-Plus-clause-below : goal.release-requires-in-Plus-clause-below
release-requires-in-Plus-clause-below g c = c.requires.below _ (name-sides _ _ _ c.in-Plus.is).0

pub release-requires-in-Plus-2-clause-below : goal.release-requires-in-Plus-2-clause-below
release-requires-in-Plus-2-clause-below g c =
    omega (arith, c.requires.below _ (name-sides _ _ _ c.in-Plus.is).1, c.release-in-Plus.ensures.size, c.args.made.now.ok.0, c.release-in-Plus.new.made.ok.0)
