use Rattle.flow_slice.proofs.SliceRuns.{ends_alike}
use Rattle.flow_slice.proofs.laws.slices_end_alike.Goals as goal

pub returns : goal.returns
returns c = λ p slice v relevant needs checked closed made. ends_alike p slice checked v relevant needs closed made
