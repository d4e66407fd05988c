use Rattle.info_flow.specs.Growth.{HasPlace}
use Rattle.info_flow.proofs.Listing.{ListsBelow}
use Rattle.info_flow.proofs.flowing.places_of.Given as goal

abbrev pub invariant-loop-place : goal.invariant-loop-place
invariant-loop-place l = ListsBelow (HasPlace l.mask) l.place l.places
