use Rattle.std.proofs.Common.{sym, ◌∙◌, arith}
use Rattle.std.proofs.lemmas.Bool.{false≢true}
use Rattle.info_flow.specs.Growth.{HasPlace}
use Rattle.info_flow.proofs.PlaceMasks.{place_below}
use Rattle.info_flow.proofs.Listing.{list_push, list_skip, list_end}
use Rattle.info_flow.proofs.flowing.places_of.Goals as goal
use Rattle.info_flow.proofs.flowing.places_of.Goals.{then-has_place+in_ok-push, else-has_place}

pub loop-place-preserved : goal.loop-place-preserved
loop-place-preserved c = elim c.if-has_place.branch [
  | then-has_place+in_ok-push w ↦
      rw (w.places-is, w.in_ok-push.ensures.ok) (list_push (HasPlace c.args.mask) c.loop-place.place c.loop-place.places (c.has_place.ensures.0 w.if-has_place.true) c.loop-place.invariant)
  | else-has_place w ↦
      rw w.places-is
      (list_skip (HasPlace c.args.mask) c.loop-place.place c.loop-place.places (λ h. false≢true (sym w.if-has_place.false ∙ c.has_place.ensures.1 h)) c.loop-place.invariant)
]

pub returns : goal.returns
returns c =
    list_end (HasPlace c.args.mask) c.loop-place.place c.loop-place.places
    (λ k h. let l = place_below c.args.mask k c.ranges.mask.fits h in omega (arith, l, c.loop-place-test.false)) c.loop-place.invariant
