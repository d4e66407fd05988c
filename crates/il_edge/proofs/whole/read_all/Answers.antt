use Rattle.std.proofs.Common.{◌++◌, take}
use Rattle.std.proofs.KnownBytes.{Consumes-trans}
use Rattle.il_edge.proofs.whole.read_all.Goals as goal

pub returns-in-Err-extend_from_slice-clause-taken : goal.returns-in-Err-extend_from_slice-clause-taken
returns-in-Err-extend_from_slice-clause-taken g c = (
  c.loop-piece.taken.items ++ take c.in-Ok.count c.read.new.buf,
  Consumes-trans _ _ _ _ _ c.loop-piece.invariant.took c.in-Ok.ensures.bytes.0,
)
