use Rattle.std.proofs.Common.{inl, inr, refl, ◌+◌}
use Rattle.flow_slice.proofs.side.side_of.Goals as goal

pub side_between-requires-clause-met : goal.side_between-requires-clause-met
side_between-requires-clause-met c = (rw c.in-If.is at c.requires.heads) (c.args.at + 1) (inl refl)

pub side_between-requires-clause-unmet : goal.side_between-requires-clause-unmet
side_between-requires-clause-unmet c = (rw c.in-If.is at c.requires.heads) c.in-If.target (inr (inl refl))

pub side_between-requires-in-ExitWhen-clause-met : goal.side_between-requires-in-ExitWhen-clause-met
side_between-requires-in-ExitWhen-clause-met c = (rw c.in-ExitWhen.is at c.requires.heads) c.in-ExitWhen.target (inl refl)

pub side_between-requires-in-ExitWhen-clause-unmet : goal.side_between-requires-in-ExitWhen-clause-unmet
side_between-requires-in-ExitWhen-clause-unmet c = (rw c.in-ExitWhen.is at c.requires.heads) (c.args.at + 1) (inr (inl refl))
