use Rattle.std.proofs.Common.{◌≡◌, drop, slice_get}
use Rattle.il_core.specs.Run.{inout_from}
use Rattle.threat_certs.proofs.quantity.inout_at.Given as goal

abbrev pub invariant-loop-index : goal.invariant-loop-index
invariant-loop-index l = slice_get (inout_from l.index (drop l.index l.places)) l.left ≡ slice_get (inout_from 0 l.places) l.fn.number
