use Rattle.std.proofs.Common.{take}
use Rattle.info_flow.proofs.PlaceMasks.{IsNeededIn}
use Rattle.info_flow.proofs.masks.needed_in.Given as goal

abbrev pub invariant-loop-line : goal.invariant-loop-line
invariant-loop-line l = IsNeededIn (take l.line-index l.row) l.masks l.places
