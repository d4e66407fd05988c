use Rattle.std.proofs.Common.{inl, inr}
use Rattle.regular_algebra.proofs.Uses.{name-sides, name-star}
use Rattle.path_expr.proofs.definitions.def_of.Goals as goal

pub ref_of-requires-clause-within : goal.ref_of-requires-clause-within
ref_of-requires-clause-within c = c.requires.within _ (name-sides _ _ _ (inl c.in-Plus.is)).0

pub ref_of-requires-in-Plus-clause-within : goal.ref_of-requires-in-Plus-clause-within
ref_of-requires-in-Plus-clause-within c = c.requires.within _ (name-sides _ _ _ (inl c.in-Plus.is)).1

pub ref_of-requires-in-Times-clause-within : goal.ref_of-requires-in-Times-clause-within
ref_of-requires-in-Times-clause-within c = c.requires.within _ (name-sides _ _ _ (inr c.in-Times.is)).0

pub ref_of-requires-in-Times-2-clause-within : goal.ref_of-requires-in-Times-2-clause-within
ref_of-requires-in-Times-2-clause-within c = c.requires.within _ (name-sides _ _ _ (inr c.in-Times.is)).1

pub ref_of-requires-in-Star-clause-within : goal.ref_of-requires-in-Star-clause-within
ref_of-requires-in-Star-clause-within c = c.requires.within _ (name-star _ _ c.in-Star.is)
