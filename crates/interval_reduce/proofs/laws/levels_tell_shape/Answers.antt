use Rattle.interval_reduce.proofs.ReductionShape.{ends_by_shape}
use Rattle.interval_reduce.proofs.laws.levels_tell_shape.Goals as goal

pub returns : goal.returns
returns c = ends_by_shape
