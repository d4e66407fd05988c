use Rattle.std.proofs.Common.{refl}
use Rattle.il_inline.specs.Stack.{turn}
use Rattle.il_inline.proofs.laws.worked_run.Goals as goal

pub returns : goal.returns
unfolding turn
returns c = record { enters = refl; asserts = refl; adds = refl; faults = refl; returns = refl }
