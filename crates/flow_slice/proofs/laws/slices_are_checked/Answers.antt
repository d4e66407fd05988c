use Rattle.flow_slice.proofs.SliceRuns.{slice_checked}
use Rattle.flow_slice.proofs.laws.slices_are_checked.Goals as goal

pub returns : goal.returns
returns c = slice_checked
