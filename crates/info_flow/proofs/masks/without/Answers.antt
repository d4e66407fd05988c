use Rattle.info_flow.proofs.PlaceMasks.{cleared}
use Rattle.info_flow.proofs.masks.without.Goals as goal

pub returns : goal.returns
returns c = λ p. cleared c.args.mask c.args.place c.ranges.mask.fits c.requires p
