use Rattle.interval_reduce.proofs.ReductionOnce.{derived_once}
use Rattle.interval_reduce.proofs.laws.one_derivation.Goals as goal

pub returns : goal.returns
returns c = derived_once
